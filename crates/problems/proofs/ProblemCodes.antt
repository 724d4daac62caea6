-- How the code makes the problem of a constructor.
use Rattle.std.proofs.Common.{◌≡◌, ℕ, ◌+◌, ◌≤◌, ◌<◌, ◌&&◌, nat_le, Bool, true, false, IfOk, Result, Ok, Err, List, length, map, sym, ap, ap₂, ◌∙◌, arith}
use Rattle.std.proofs.lemmas.Bool.Decides.{nat_tests}
use Rattle.std.proofs.lemmas.List.{length-map, length-append}
use Rattle.theory.specs.Terms.{Term}
use Rattle.theory.specs.Telescopes.{Telescope}
use Rattle.theory.specs.Families.{Constructor}
use Rattle.theory.specs.Signatures.{Signature}
use Rattle.core_terms.specs.Answers.{Gives, IsUnforeseen, and_then, bounded_terms}
use Rattle.core_terms.specs.Meanings.{tree_of, tele_of}
use Rattle.core_terms.specs.declared.stop.Stop.{Stop}
use Rattle.core_terms.specs.declared.stop.Stop.TheVariants.{Deep}
use Rattle.core_terms.specs.declared.term.Term as code-term
use Rattle.core_sig.specs.Meanings.{argument_of, constructor_of}
use Rattle.core_sig.specs.declared.family.Constructor as code-constructor
use Rattle.core_terms.specs.Bounds.{context_limit}
use Rattle.core_terms.proofs.Answers.{stands-has}
use Rattle.tele_eq.specs.Items.{Item, item_of}
use Rattle.unification.specs.Heights.{bounded_items}
use Rattle.unification.specs.Injecting.{lifted}
use Rattle.unification.specs.Records.{argument_items, family_items, constructor_terms}
use Rattle.unification.specs.ScopedStates.{IsScopedProblem}
use Rattle.unification.specs.States as pure
use Rattle.unification.proofs.ScopedRecords.{length-argument_items, length-family_items}
use Rattle.problems.specs.Meanings.{problem_of as problem_meant}
use Rattle.problems.specs.declared.problem.Problem as code
use Rattle.problems.proofs.KnownRecords.{items-made, terms-made}
use Rattle.problems.proofs.LowTerms.{and-parts}
use Rattle.case_trees.specs.Problems.{Member, problem_of}
use Rattle.problems.specs.MemberConditions.{most_params}
use Rattle.problems.specs.MemberMeanings.{member_meant}
use Rattle.problems.specs.ProblemsMade.{problem_made, problem_of_parts}
use Rattle.problems.specs.declared.members.Member as code-member
use Rattle.problems.proofs.ProblemParts.{problem-has, problem-many}

-- the parts are those that are made
pub parts-made : (context : Telescope) (x : ℕ) (m : Member) (number : ℕ) (c : Constructor) (X Y : List Item) (L : List Term) (count : ℕ)
    → Ok X ≡ bounded_items (argument_items m.n m.parameters c) → Ok Y ≡ bounded_items (family_items m.n m.family (lifted count m.parameters))
    → Ok L ≡ bounded_terms (constructor_terms m.n number m.parameters c) → count ≡ length c.arguments
    → Ok (problem_of_parts context x count m.indices X Y L) ≡ problem_made context x m number c
parts-made context x m number c X Y L count hx hy hl ec =
    let A = argument_items m.n m.parameters c in
    let F = family_items m.n m.family (lifted (length c.arguments) m.parameters) in
    let T = constructor_terms m.n number m.parameters c in
    let k = length c.arguments in
    let hy' : Ok Y ≡ bounded_items F = hy ∙ ap (λ j. bounded_items (family_items m.n m.family (lifted j m.parameters))) ec in
    let whole : Result pure.Problem Stop = Ok (problem_of context x m number c) in
    ap (λ j. Ok (problem_of_parts context x j m.indices X Y L)) ec
    ∙ (ap (λ a. Ok (problem_of_parts context x k m.indices a Y L)) (items-made A X hx).0
    ∙ (ap (λ f. Ok (problem_of_parts context x k m.indices A f L)) (items-made F Y hy').0
    ∙ (ap (λ t. Ok (problem_of_parts context x k m.indices A F t)) (terms-made T L hl).0
    ∙ (ap (λ r. and_then r (λ terms. whole)) hl
    ∙ (ap (λ r. and_then r (λ family. and_then (bounded_terms T) (λ terms. whole))) hy'
    ∙ ap (λ r. and_then r (λ arguments. and_then (bounded_items F) (λ family. and_then (bounded_terms T) (λ terms. whole)))) hx)))))

-- ---- few arguments and indices

pub both-few : (a b : ℕ) → (nat_le a 2000 && nat_le b 2000) ≡ true → (a ≤ 2000) × (b ≤ 2000)
both-few a b e =
    let parts = and-parts (nat_le a 2000) (nat_le b 2000) e in
    (grind (arith, nat_tests), grind (arith, nat_tests))

pub whole-few : (context : Telescope) (x : ℕ) (m : Member) (number : ℕ) (c : Constructor) → length context ≤ most_params → length c.arguments ≤ 2000
    → length m.family.indices ≤ 2000
    → length (problem_of context x m number c).context + length (problem_of context x m number c).telescope < context_limit
whole-few context x m number c few args indices =
    let items = argument_items m.n m.parameters c in
    let longer : length (problem_of context x m number c).context ≡ length context + length c.arguments =
    length-append context (map (λ (item : Item). item.type) items)
    ∙ ap (λ k. length context + k) (length-map items (λ item. item.type) ∙ length-argument_items m.n m.parameters c) in
    let telescope = length-family_items m.n m.family (lifted (length c.arguments) m.parameters) in
    omega arith

pub code-few : (r : Result code.Problem Stop) → IfOk r (λ p. length (problem_meant p).context + length (problem_meant p).telescope < context_limit)
    → IfOk r (λ p. length p.ctx + length p.tele < context_limit)
code-few (Ok p) h = let n = length-map p.ctx tree_of in let k = length-map p.tele item_of in omega arith
code-few (Err e) h = tt

-- ---- the problem of the code

pub code-many : (context : Telescope) (x : ℕ) (m : code-member.Member) (number : ℕ) (con : code-constructor.Constructor) (few : Bool) → few ≡ false
    → few ≡ (nat_le (length con.args) 2000 && nat_le (length m.family.now.indices) 2000)
    → ◌≡◌ {A = Result pure.Problem Stop} (Err Deep) (problem_made context x (member_meant m) number (constructor_of (length m.family.now.params) con))
code-many context x m number con few none e =
    problem-many context x (member_meant m) number (constructor_of (length m.family.now.params) con)
    (ap₂ (λ a b. nat_le a 2000 && nat_le b 2000) (length-map con.args (argument_of (length m.family.now.params)))
    (length-map m.family.now.indices (λ i. (tree_of i.ty, i.level)))
    ∙ (sym e ∙ none))

module _ (context : List code-term.Term) (x : ℕ) (m : code-member.Member) (number : ℕ) (con : code-constructor.Constructor) (r : Result code.Problem Stop)
    (made : Gives problem_meant r (problem_made (tele_of context) x (member_meant m) number (constructor_of (length m.family.now.params) con))) where
  pub code-scoped : (S : Signature) → IsScopedProblem S (problem_of (tele_of context) x (member_meant m) number (constructor_of (length m.family.now.params) con))
      → IfOk r (λ p. IsScopedProblem S (problem_meant p))
  code-scoped S h =
      stands-has IsUnforeseen (λ e. e) problem_meant (IsScopedProblem S) r
      (problem_made (tele_of context) x (member_meant m) number (constructor_of (length m.family.now.params) con)) made
      (problem-has (tele_of context) x (member_meant m) number (constructor_of (length m.family.now.params) con) (IsScopedProblem S) h)

  pub code-whole-few : (few : Bool) → few ≡ true → few ≡ (nat_le (length con.args) 2000 && nat_le (length m.family.now.indices) 2000)
      → length context ≤ most_params → IfOk r (λ p. length p.ctx + length p.tele < context_limit)
  code-whole-few few all e less =
      let both = both-few (length con.args) (length m.family.now.indices) (sym e ∙ all) in
      let n = length-map context tree_of in
      let args : length (constructor_of (length m.family.now.params) con).arguments ≡ length con.args = length-map con.args (argument_of (length m.family.now.params)) in
      let indices : length (member_meant m).family.indices ≡ length m.family.now.indices = length-map m.family.now.indices (λ i. (tree_of i.ty, i.level)) in
      code-few r
      (stands-has IsUnforeseen (λ e. e) problem_meant (λ (p : pure.Problem). length p.context + length p.telescope < context_limit) r
      (problem_made (tele_of context) x (member_meant m) number (constructor_of (length m.family.now.params) con)) made
      (problem-has (tele_of context) x (member_meant m) number (constructor_of (length m.family.now.params) con)
      (λ (p : pure.Problem). length p.context + length p.telescope < context_limit)
      (whole-few (tele_of context) x (member_meant m) number (constructor_of (length m.family.now.params) con) (omega arith)
      (omega (arith, both.0)) (omega (arith, both.1)))))
