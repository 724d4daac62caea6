-- Where the term of an injectivity or a conflict is low, the code makes it.
use Rattle.std.proofs.Common.{◌≡◌, ◌≢◌, ℕ, zero, suc, ◌+◌, ◌≤◌, ◌&&◌, true, cond, List, [], ◌∷◌, ◌++◌, length, take, Result, Ok, Err, refl, ap, ap₂, ◌∙◌, arith}
use Rattle.std.proofs.lemmas.List.{length-append, length-map, length-take}
use Rattle.theory.specs.Terms.{Term, Const, height}
use Rattle.theory.specs.Telescopes.{functions}
use Rattle.core_terms.specs.Answers.{and_then}
use Rattle.core_terms.specs.Levels.{run}
use Rattle.core_terms.specs.declared.stop.Stop.{Stop}
use Rattle.core_terms.specs.declared.stop.Stop.TheVariants.{Deep}
use Rattle.tele_eq.specs.Items.{Item}
use Rattle.tele_eq.specs.TelescopicEquality.{reflexivities}
use Rattle.tele_eq.proofs.Positions.{length-each_position}
use Rattle.unification.specs.Heights.{are_low_items}
use Rattle.unification.specs.Records.{family_items}
use Rattle.unification.proofs.ScopedRecords.{length-family_items}
use Rattle.problems.specs.Conditions.{AreLow}
use Rattle.problems.proofs.LowTerms.{terms-low}
use Rattle.tree_translation.specs.Comparisons.{Comparison, group_equations, left_member, member, right_member, targets}
use Rattle.tree_translation.specs.ConfusionTerms.{compared_equations, conflict_term, confused, inject_term}
use Rattle.tree_translation.specs.Naming.{Naming, noconf_name}
use Rattle.tree_translation.specs.SolutionTerms.{remaining_goal}
use Rattle.tree_translation.specs.Standings.{Standing, all_here, first_equations, further_equations, inside, levels_from, placed, placed_telescope}
use Rattle.run_terms.specs.CodeConfusions.{before_group, compared_made, conflict_made, conflict_with, inject_made, inject_with, injection_motive}
use Rattle.run_terms.specs.Made.{reflexivities_made}
use Rattle.run_terms.proofs.MadeTerms.{conflict-is, inject-is}
use Rattle.entry_laws.proofs.replay_laws.LowComparisons.{equations-there, few-enough}
use Rattle.entry_laws.proofs.replay_laws.LowParts.{low-appended, low-application, low-applied, low-equations, low-functions, low-placed, low-placed_telescope, low-reflexivities}

-- a constructor has as many targets as its family has indices, and the group has an equation for each
pub record IsCounted (k : ℕ) (c : Comparison) : Type 0 where
  pub left : length c.left.constructor.targets ≡ length c.family.indices
  pub indices : length c.indices ≡ length c.family.indices
  pub group : k ≢ 0 → k ≡ length c.family.indices

-- ---- how many there are

length-run : (depth start count : ℕ) → length (run depth start count) ≡ count
length-run depth start zero = refl
length-run depth start (suc count) = ap suc (length-run depth (start + 1) count)

length-left : (c : Comparison) → length (left_member c) ≡ length c.left.constructor.targets + 1
length-left c =
    length-append (targets c.parameters c.left) (member c c.left ∷ []) ∙ ap (λ k. k + 1) (length-map c.left.constructor.targets _)

length-right : (c : Comparison) → length (right_member c) ≡ length c.indices + 1
length-right c = length-append c.indices (member c c.right ∷ [])

-- the items of the indices
abbrev index_items : Comparison → List Item
index_items c = take (length c.family.indices) (family_items c.n c.family c.parameters)

length-index_items : (c : Comparison) → length (index_items c) ≡ length c.family.indices
length-index_items c =
    let some = length-take (length c.family.indices) (family_items c.n c.family c.parameters) in
    let all = length-family_items c.n c.family c.parameters in
    omega arith

length-group : (s : Standing) (k : ℕ) (c : Comparison) → IsCounted k c → length (group_equations s c k) ≡ length c.family.indices + 1
length-group s zero c counted =
    let refls = reflexivities (index_items c) c.indices in
    let all = length-append (all_here s refls) (first_equations s 1) in
    let first : length (all_here s refls) ≡ length (index_items c) = length-map refls _ ∙ length-each_position _ 0 (length (index_items c)) in
    let count = length-index_items c in
    let one = length-run (inside s) s.depth 1 in
    omega arith
length-group s (suc k) c counted =
    let all = length-run (inside s) s.depth (suc k + 1) in let same : suc k ≡ length c.family.indices = counted.group (λ e. omega arith) in omega arith

-- ---- the parts of a low term

confused-low : (number : Naming) (L : ℕ) (s : Standing) (k : ℕ) (c : Comparison) → IsCounted k c → height (confused number L s k c) ≤ 2000
    → (length c.family.indices + 1 ≤ 1000) × AreLow (group_equations s c k)
confused-low number L s k c counted low =
    let group = group_equations s c k in
    let third = all_here s (right_member c) ++ group in
    let second = all_here s c.left.arguments ++ third in
    let whole = low-applied (Const (number (noconf_name c.family c.left.number L))) (all_here s c.parameters ++ second) low in
    let after_parameters = low-appended (all_here s c.parameters) second whole.1 in
    let after_arguments = low-appended (all_here s c.left.arguments) third after_parameters.1 in
    let after_right = low-appended (all_here s (right_member c)) group after_arguments.1 in
    let room : height (Const (number (noconf_name c.family c.left.number L))) + length (all_here s c.parameters ++ second) ≤ 2000 = whole.0 in
    let a = length-append (all_here s c.parameters) second in
    let b = length-append (all_here s c.left.arguments) third in
    let d = length-append (all_here s (right_member c)) group in
    let right : length (all_here s (right_member c)) ≡ length c.indices + 1 = length-map (right_member c) _ ∙ length-right c in
    let indices : length c.indices ≡ length c.family.indices = counted.indices in
    let equations = length-group s k c counted in
    (omega arith, after_right.1)

compared-there : (s : Standing) (k : ℕ) (c : Comparison) → IsCounted k c → length c.family.indices + 1 ≤ 1000 → AreLow (compared_equations s c)
    → compared_made s c ≡ Ok (compared_equations s c)
compared-there s k c counted few low =
    let X = family_items c.n c.family c.parameters in
    let count = length-family_items c.n c.family c.parameters in
    let el = length-left c in
    let er = length-right c in
    let cl : length c.left.constructor.targets ≡ length c.family.indices = counted.left in
    let cr : length c.indices ≡ length c.family.indices = counted.indices in
    let parts = low-equations X (left_member c) (right_member c) (omega arith) (omega arith) (low-placed_telescope s.variables (inside s) _ low) in
    ap (λ (r : Result (List Term) Stop). and_then r (λ types. Ok (placed_telescope s.variables (inside s) types)))
    (equations-there X (left_member c) (right_member c) (omega arith) parts.0 parts.1.0 parts.1.1)

pub reflexivities-there : (X : List Item) (us : List Term) → length X ≤ 1000 → are_low_items X ≡ true → AreLow us
    → reflexivities_made X us ≡ Ok (reflexivities X us)
reflexivities-there X us few low hu =
    ap (λ b. cond {A = Result (List Term) Stop} b (Ok (reflexivities X us)) (Err Deep))
    (ap₂ ◌&&◌ (few-enough (length X) few) (ap₂ ◌&&◌ low (terms-low us hu)))

-- the terms before the equations of the group are made
group-made : (s : Standing) (k : ℕ) (c : Comparison) → IsCounted k c → length c.family.indices + 1 ≤ 1000 → AreLow (group_equations s c k)
    → (before : List Term) × (before_group c k ≡ Ok before)
group-made s zero c counted few low =
    let X = index_items c in
    let count = length-index_items c in
    let indices : length c.indices ≡ length c.family.indices = counted.indices in
    let refls = reflexivities X c.indices in
    let parts =
    low-reflexivities X c.indices (omega arith)
    (low-placed s.variables (inside s) refls (low-appended (all_here s refls) (first_equations s 1) low).0) in
    (refls, reflexivities-there X c.indices (omega arith) parts.0 parts.1)
group-made s (suc k) c counted few low = ([], refl)

pub inject-there : (number : Naming) (L : ℕ) (s : Standing) (k : ℕ) (c : Comparison) (N : Term) → IsCounted k c
    → height (inject_term number L s k c N) ≤ 2000 → inject_made number L s k c N ≡ Ok (inject_term number L s k c N)
inject-there number L s k c N counted low =
    let types = compared_equations s c in
    let motive = injection_motive s (k + 1) types in
    let whole = low-applied (confused number L s k c) (motive ∷ N ∷ further_equations s (k + 1)) low in
    let room : height (confused number L s k c) + length (motive ∷ N ∷ further_equations s (k + 1)) ≤ 2000 = whole.0 in
    let head = confused-low number L s k c counted (omega arith) in
    let body = low-functions types (remaining_goal s (k + 1) s.variables (levels_from (inside s) (k + 1)) (inside s + (k + 1))) whole.1.0 in
    let before = group-made s k c counted head.0 head.1 in
    let term = inject_with number L s k c types before.0 N in
    let made : inject_made number L s k c N ≡ Ok term =
    ap (λ (r : Result (List Term) Stop). and_then r (λ types. and_then (before_group c k) (λ before. Ok (inject_with number L s k c types before N))))
    (compared-there s k c counted head.0 body.0)
    ∙ ap (λ (r : Result (List Term) Stop). and_then r (λ before. Ok (inject_with number L s k c types before N))) before.1 in
    made ∙ ap (λ t. Ok t) (inject-is number L s k c N term made)

pub conflict-there : (number : Naming) (L : ℕ) (s : Standing) (k : ℕ) (c : Comparison) → IsCounted k c → height (conflict_term number L s k c) ≤ 2000
    → conflict_made number L s k c ≡ Ok (conflict_term number L s k c)
conflict-there number L s k c counted low =
    let types = compared_equations s c in
    let goal = placed s.variables (inside s + length types) s.goal in
    let first : height (confused number L s k c) ≤ 2000 = parts.0 in
    let second : height (functions types goal) ≤ 2000 = parts.1 in
    let head = confused-low number L s k c counted first in
    let body = low-functions types goal second in
    let before = group-made s k c counted head.0 head.1 in
    let term = conflict_with number L s k c types before.0 in
    let made : conflict_made number L s k c ≡ Ok term =
    ap (λ (r : Result (List Term) Stop). and_then r (λ types. and_then (before_group c k) (λ before. Ok (conflict_with number L s k c types before))))
    (compared-there s k c counted head.0 body.0)
    ∙ ap (λ (r : Result (List Term) Stop). and_then r (λ before. Ok (conflict_with number L s k c types before))) before.1 in
    made ∙ ap (λ t. Ok t) (conflict-is number L s k c term made)
  where
    parts : (height (confused number L s k c) ≤ 2000)
        × (height (functions (compared_equations s c) (placed s.variables (inside s + length (compared_equations s c)) s.goal)) ≤ 2000)
    parts = low-application (confused number L s k c) _ low
