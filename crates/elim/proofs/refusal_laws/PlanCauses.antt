-- The decreasing argument and the trees of a function: each refusal there has its cause.
use Rattle.std.proofs.Common.{◌≡◌, ℕ, ◌+◌, Option, Result, Ok, Err, IfErr, List, [], ◌∷◌, length, refl, sym, ap, ◌∙◌, subst as transport, arith}
use Rattle.theory.specs.Terms.{Term}
use Rattle.theory.specs.Telescopes.{Telescope}
use Rattle.theory.specs.Signatures.{Signature}
use Rattle.core_terms.proofs.Answers.{Splits}
use Rattle.core_terms.specs.Clauses.{Clauses}
use Rattle.tree_translation.proofs.structural_rec.ChosenPositions.{not-smaller}
use Rattle.tree_translation.specs.structural_rec.Choices.{Choice, NotRecursive, At, NotSmaller, choose}
use Rattle.tree_translation.specs.structural_rec.Laws.{IsTelescopeOrder}
use Rattle.case_trees.proofs.TreeStanding.{tree_caused, tree_stop_scoped}
use Rattle.case_trees.specs.Laws.{IsGiven}
use Rattle.case_trees.specs.Points.{start_at}
use Rattle.case_trees.specs.Scoped.{AreClausesFor}
use Rattle.case_trees.specs.Trees.{split_of}
use Rattle.entry_laws.proofs.order_scopes.RecursionOrders.{recursion-ordered}
use Rattle.tree_translation.specs.Entries.{ordered_variables}
use Rattle.tree_translation.specs.Recursion.{Recursion, order_of, ordered_telescope, ordered_term}
use Rattle.clause_reports.proofs.Keeping.{Any}
use Rattle.tree_translation.specs.Naming.{part_named}
use Rattle.clause_reports.specs.elaboration.Functions.{helpers_finished, own_finished, own_part, plan_of, position_chosen, recursion_in}
use Rattle.clause_reports.specs.elaboration.Refusals.{Refusal, answers, or_ends, walking}
use Rattle.clause_reports.specs.elaboration.Walking.{Given, Opened, Walked, walk_clauses}
use Rattle.function_checks.proofs.function_clauses.Fitting.{clauses-for}
use Rattle.function_checks.proofs.function_clauses.OwnParts.{own-columns, own-part-for, part-walked}
use Rattle.function_plans.proofs.SameChoices.{choice-same, provisional-same, recursion-same}
use Rattle.function_session.proofs.function_lines.SamePlans.{walked_of}
use Rattle.function_session.specs.function_lines.Conditions.{IsFunctionOver}
use Rattle.function_session.specs.function_lines.Opened.{session_at}
use Rattle.function_plans.proofs.Orders.{in-is}
use Rattle.function_plans.proofs.Starts.{IsStart, start-clauses, start-given, starts}
use Rattle.function_plans.specs.CodePlans.{IsOwnWalked, own_tree_of}
use Rattle.function_session.specs.Laws.{inner}
use Rattle.resolve.specs.Functions.{Function}
use Rattle.elim.specs.refusal_laws.Causes.{Caused, IsPartAt, of_split}
use Rattle.elim.specs.refusal_laws.Parts.{IsTreeStart, from_columns, from_order, own}
use Rattle.elim.proofs.refusal_laws.Chains.{Refuses, next-refuses, refused, walking-caused}
use Rattle.elim.proofs.refusal_laws.Ends.{end-caused}
use Rattle.elim.proofs.refusal_laws.PartScopes.{part-walkable}
use Rattle.elim.proofs.refusal_laws.WalkCauses.{AreHelpers, GivesHelpers, all-from, all-listed, clauses-caused, splits-any}
use Rattle.elim.specs.written_functions.Clauses.{with_own}

-- ---- trees

split-caused : (S : Signature) (f : Function) (k : ℕ) (part : Opened) (clauses : Clauses) (context : Telescope) (goal : Term) (terms : List Term) (left : ℕ)
    → IsPartAt S f k part clauses → IsGiven (with_own S f) context goal terms → AreClausesFor (with_own S f) terms clauses
    → IsTreeStart S f k part (start_at context goal terms)
    → Refuses (Caused S f) (walking (with_own S f) (part_named f.name k) (split_of (with_own S f) context goal terms clauses left))
split-caused S f k part clauses context goal terms left at given for is_start =
    let T = with_own S f in
    let made = split_of T context goal terms clauses left in
    refused (λ t. made.0 ≡ Ok t) (Caused S f) (or_ends T (part_named f.name k) made.0)
    (walking-caused (Caused S f) T (part_named f.name k) made.0 (λ e is.
    end-caused S f k part clauses e at (tree_stop_scoped T context goal terms clauses left e given for is)
    (of_split (start_at context goal terms) is_start (tree_caused T context goal terms clauses left e given for is))))

helpers-caused : (S : Signature) (f : Function) (r : Option Recursion) (level number : ℕ) (helpers : List Walked) (left : ℕ)
    → IsFunctionOver (with_own S f) f → AreHelpers S f number helpers
    → Refuses (Caused S f) (helpers_finished (session_at S f) r level number helpers left)
helpers-caused S f r level number [] left over h = tt
helpers-caused S f r level number (w ∷ helpers) left over h =
    let T = with_own S f in
    let N = Caused S f in
    let walkable = part-walkable S f number w.part w.clauses over h.0.1.is in
    let made = walking T (part_named f.name number) (split_of T w.part.tele w.part.goal w.part.terms w.clauses left) in
    next-refuses Any N made _
    (splits-any N made.0
    (split-caused S f number w.part w.clauses w.part.tele w.part.goal w.part.terms left h.0.1 walkable.given
    (clauses-for T w.part.terms w.clauses walkable.fitting) (from_columns number w.part h.0.0))) (λ t rest u.
    let others = helpers_finished (session_at S f) r level (number + 1) helpers rest in
    next-refuses Any N others _ (splits-any N others.0 (helpers-caused S f r level (number + 1) helpers rest over h.1)) (λ parts end v. tt))

own-at : (S : Signature) (f : Function) (level : ℕ) → IsPartAt S f 0 (own_part f level) f.clauses
own-at S f level = record { is = own level; listed = refl }

own-tree : (S : Signature) (f : Function) (level : ℕ) (given : Given) (position : Option ℕ) (order : List ℕ) (left : ℕ) → IsFunctionOver (with_own S f) f
    → order ≡ order_of (length (own_part f level).tele) (recursion_in (with_own S f) (own_part f level).tele position)
    → Refuses (Caused S f) (own_tree_of (session_at S f) (walked_of f level given) (length (own_part f level).tele) order left)
own-tree S f level given position order left over same =
    let T = with_own S f in
    let part = own_part f level in
    let tele = part.tele in
    let count = length tele in
    let w = walked_of f level given in
    let own_walked : IsOwnWalked T w = record {
      walked = part-walked T w (own-part-for over.before T f level over.prefix over.ready over.resolved);
      columns = own-columns over.before T f level over.resolved;
    } in
    let ordered : IsTelescopeOrder tele order =
    transport (IsTelescopeOrder tele) (ap (order_of count) (in-is T tele position) ∙ sym same) (recursion-ordered T tele position) in
    let context = ordered_telescope tele order in
    let goal = ordered_term count order part.goal in
    let terms = ordered_variables order count in
    let start : IsStart T w context count order = starts T w context count order own_walked refl ordered refl in
    split-caused S f 0 part f.clauses context goal terms left (own-at S f level) (start-given T w context count order start goal terms refl refl)
    (start-clauses T w context count order start terms refl) (from_order part position order same)

-- a refusal of the own tree has its cause
own-caused : (S : Signature) (f : Function) (level : ℕ) (given : Given) (position : Option ℕ) (r : Option Recursion) (left : ℕ)
    → IsFunctionOver (with_own S f) f → r ≡ recursion_in (with_own S f) (own_part f level).tele position
    → Refuses (Caused S f) (own_finished (session_at S f) r (walked_of f level given) left)
own-caused S f level given position r left over same =
    let N = Caused S f in
    let tele = (own_part f level).tele in
    let tree = own_tree_of (session_at S f) (walked_of f level given) (length tele) (order_of (length tele) r) left in
    next-refuses Any N tree _
    (splits-any N tree.0 (own-tree S f level given position (order_of (length tele) r) left over (ap (order_of (length tele)) same))) (λ t rest u. tt)

-- ---- the position

-- the result of the walks of a function's clauses
record IsGivenBy (S : Signature) (f : Function) (level left : ℕ) (given : Given) : Type 0 where
  helpers : GivesHelpers S f 1 (length (inner f.clauses)) given
  walked : (walk_clauses (session_at S f) 0 (own_part f level) 0 1 f.clauses left).0 ≡ Ok given

position-caused : (S : Signature) (f : Function) (level left : ℕ) (given : Given) (choice : Choice) → IsGivenBy S f level left given
    → choose (with_own S f) (own_part f level).tele (length S.entries) given.uses ≡ choice → IfErr (position_chosen (session_at S f) choice) (Caused S f)
position-caused S f level left given NotRecursive by is = tt
position-caused S f level left given (At j) by is = tt
position-caused S f level left given (NotSmaller rows) by is =
    let exact = (not-smaller (with_own S f) (own_part f level).tele (length S.entries) given.uses rows).0 is in
    record {
      level = level;
      left = left;
      given = given;
      walked = by.walked;
      recursive = exact.0;
      rows = rows;
      failing = exact.1;
      shown = refl;
    }

-- ---- the plan

walks-caused : (S : Signature) (f : Function) (level left : ℕ) → IsFunctionOver (with_own S f) f
    → Splits (IsGivenBy S f level left) (Caused S f) (walk_clauses (session_at S f) 0 (own_part f level) 0 1 f.clauses left).0
walks-caused S f level left over =
    by (walk_clauses (session_at S f) 0 (own_part f level) 0 1 f.clauses left).0 refl
    (clauses-caused S f over 0 (own_part f level) f.clauses (own-at S f level) 0 1 f.clauses (all-from f.clauses) (omega arith) (all-listed f) left)
  where
    by : (r : Result Given Refusal) → (walk_clauses (session_at S f) 0 (own_part f level) 0 1 f.clauses left).0 ≡ r
        → Splits (GivesHelpers S f 1 (length (inner f.clauses))) (Caused S f) r → Splits (IsGivenBy S f level left) (Caused S f) r
    by (Ok given) is h = record { helpers = h; walked = is }
    by (Err e) is h = h

pub plan-meant : (S : Signature) (f : Function) (level left : ℕ) → IsFunctionOver (with_own S f) f
    → Refuses (Caused S f) (plan_of S f level left)
plan-meant S f level left over =
    let T = with_own S f in
    let s = session_at S f in
    let N = Caused S f in
    let tele = (own_part f level).tele in
    let families = provisional-same S f.name f.type in
    next-refuses (IsGivenBy S f level left) N (walk_clauses s 0 (own_part f level) 0 1 f.clauses left) _ (walks-caused S f level left over) (λ given rest by.
    let w = walked_of f level given in
    let choice = choose S tele (length S.entries) given.uses in
    next-refuses Any N (answers (position_chosen s choice) rest) _
    (splits-any N (position_chosen s choice)
    (position-caused S f level left given choice by (sym (choice-same S T families tele (length S.entries) given.uses)))) (λ position more u.
    let r = recursion_in S tele position in
    let same = recursion-same S T families tele position in
    let first = own_finished s r w more in
    next-refuses Any N first _
    (splits-any N first.0
    (own-caused S f level given position r more over same)) (λ part end v.
    let helpers = helpers_finished s r level 1 given.helpers end in
    next-refuses Any N helpers _ (splits-any N helpers.0 (helpers-caused S f r level 1 given.helpers end over by.helpers.helpers)) (λ parts last x. tt))))
