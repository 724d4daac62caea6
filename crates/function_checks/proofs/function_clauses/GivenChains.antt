-- The results of clauses, one call of the code after the other.
use Rattle.std.proofs.Common.{◌≡◌, ℕ, ◌+◌, List, [], ◌∷◌, ◌++◌, Ok, Err, sym, ap, ◌∙◌, subst as transport}
use Rattle.theory.specs.Terms.{Term}
use Rattle.theory.specs.Signatures.{Signature}
use Rattle.core_terms.specs.Answers.{and_next}
use Rattle.core_terms.specs.CaseTrees.{Walk}
use Rattle.core_terms.specs.Clauses.{Clauses}
use Rattle.clause_reports.specs.elaboration.Refusals as pure
use Rattle.clause_reports.specs.elaboration.Refusals.{Elaborating, Owner, answers}
use Rattle.clause_reports.specs.elaboration.Walking.{Given, Walked, joined}
use Rattle.function_checks.proofs.function_clauses.OwnParts.{part-walked}
use Rattle.function_checks.specs.function_clauses.CodeClauses.{Scrutinee, with_dots, with_scrutinee}
use Rattle.function_checks.specs.declared.function_refusals.refusal.FunctionRefusal.{FunctionRefusal}
use Rattle.function_checks.specs.function_walks.Conditions.{AreWalked, IsPartFor}
use Rattle.function_checks.specs.walk_checks.CodeDots.{dots_checked}

abbrev gave : {A : Type 0} → A → ℕ → Elaborating A
gave a n = (Ok a, n)

abbrev refused : {A : Type 0} → pure.Refusal → ℕ → Elaborating A
refused e n = (Err e, n)

-- ---- a clause's own walk

pub dots-end : (S : Signature) (owner : Owner) (w : Walk) (dots : List (Term × Term)) (left more : ℕ) (e : pure.Refusal) → dots ≡ w.dots
    → refused e more ≡ dots_checked S owner w.ctx dots left → refused e more ≡ with_dots S owner w left
dots-end S owner w dots left more e is h =
    ap (λ r. and_next r (λ u more. answers (Ok w) more)) (h ∙ ap (λ ds. dots_checked S owner w.ctx ds left) is)

-- ---- helpers

both-walked : (S : Signature) (first others : List Walked) → AreWalked S first → AreWalked S others → AreWalked S (first ++ others)
both-walked S [] others h k = k
both-walked S (w ∷ first) others h k = (h.0, both-walked S first others h.1 k)

pub joined-walked : (S : Signature) (first others g : Given) → AreWalked S first.helpers → AreWalked S others.helpers → g ≡ joined first others
    → AreWalked S g.helpers
joined-walked S first others g h k is =
    transport (λ g. AreWalked S g.helpers) (sym is) (both-walked S first.helpers others.helpers h k)

pub inside-walked : (S : Signature) (k number : ℕ) (w : Walk) (x : Scrutinee) (inner : Clauses) (given g : Given) → IsPartFor S x.part inner
    → AreWalked S given.helpers → g ≡ with_scrutinee k number w x inner given → AreWalked S g.helpers
inside-walked S k number w x inner given g part h is =
    transport (λ g. AreWalked S g.helpers) (sym is)
    (part-walked S (record { part = x.part; clauses = inner; walks = given.walks; sides = given.sides }) part, h)
