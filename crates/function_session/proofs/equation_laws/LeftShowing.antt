-- The left side of a function's clause shows its patterns.
use Rattle.std.proofs.Common.{◌≡◌, ◌⊎◌, inl, inr, ℕ, ◌<◌, false, Some, Result, Ok, List, length, slice_get, sym, ap, ◌∙◌, subst as transport}
use Rattle.std.specs.Prelude.{option_and_then}
use Rattle.std.proofs.lemmas.Option.{get_or_from_slice_get}
use Rattle.theory.specs.Terms.{Term, Const}
use Rattle.theory.specs.Telescopes.{applied}
use Rattle.theory.specs.Signatures.{Signature, FamilyOf, Definition, IsEntryAt, IsPrefix}
use Rattle.theory.proofs.Pushing.{entry_of-pushed}
use Rattle.theory.proofs.Widening.{prefix_keeps}
use Rattle.core_terms.specs.Answers.{bounded}
use Rattle.core_terms.specs.CaseTrees.{Walk}
use Rattle.core_terms.specs.Patterns as pattern
use Rattle.core_terms.specs.Patterns.{Pats}
use Rattle.kernel_reduce.specs.Entries.{family_in, family_at}
use Rattle.kernel_reduce.proofs.LookUps.{family-found}
use Rattle.case_trees.specs.Points.{under_solution}
use Rattle.case_trees.proofs.Answered.{Holds}
use Rattle.case_trees.specs.Stops.{TreeStop}
use Rattle.tree_translation.specs.Conditions.{with_function}
use Rattle.tree_translation.specs.Plans.{Plan}
use Rattle.tree_translation.proofs.Drafting.{and_then-ok, bounded-ok}
use Rattle.clause_reports.specs.Conditions.{IsEntered}
use Rattle.clause_reports.specs.Equations.{Equation, Site, in_signature, number_of, all_shown, left_side, right_side, equation_at, equation_of, part_at, pats_of, side_of, walk_site}
use Rattle.function_session.specs.equation_laws.Laws.{LeftShows}
use Rattle.clause_reports.specs.Reports.{Reference, some_absurd}
use Rattle.function_session.specs.equation_laws.Fitting.{AllFit}
use Rattle.function_session.proofs.equation_laws.OwnMatches.{IsMatched, walk-matched}
use Rattle.function_session.proofs.equation_laws.PlannedClauses.{IsClauseThere, clause-there}
use Rattle.function_session.proofs.equation_laws.ShownTerms.{FamiliesStay, all-fit}

-- ---- the parts of an equation

pub record IsAt (S : Signature) (plan : Plan) (k : ℕ) (pats : Pats) (side : Term) (site : Site) (e : Equation) : Type 0 where
  pub context : e.context ≡ site.context
  pub type : e.type ≡ site.goal
  pub left : e.left ≡ left_side S plan k pats site
  pub right : e.right ≡ right_side S plan side site

pub ok-is : {A E : Type 0} {a b : A} → ◌≡◌ {A = Result A E} (Ok a) (Ok b) → a ≡ b
ok-is e = cc

pub equation-is : (S : Signature) (plan : Plan) (k : ℕ) (pats : Pats) (side : Term) (site : Site) (e : Equation)
    → equation_at S plan k pats side site ≡ Ok e → IsAt S plan k pats side site e
equation-is S plan k pats side site e made =
    let first = and_then-ok (bounded (left_side S plan k pats site)) _ e made in
    let second = and_then-ok (bounded (right_side S plan side site)) _ e first.goes in
    let same = ok-is second.goes in
    record {
      context = sym (ap (λ (x : Equation). x.context) same);
      type = sym (ap (λ (x : Equation). x.type) same);
      left = sym (ap (λ (x : Equation). x.left) same) ∙ bounded-ok (left_side S plan k pats site) first.answer first.is;
      right = sym (ap (λ (x : Equation). x.right) same) ∙ bounded-ok (right_side S plan side site) second.answer second.is;
    }

-- ---- families

-- the families of the signature with the function are families of what comes after it
pub families-stay : (before S : Signature) (plan : Plan) → IsPrefix before S → FamiliesStay (with_function before plan) S
families-stay before S plan prefix n f e = by (entry_of-pushed before (Definition plan.name plan.type (Const (length before.entries))) n (FamilyOf f) (family-found (with_function before plan) n f e))
  where
    by : IsEntryAt before n (FamilyOf f) ⊎ ((n ≡ length before.entries) × (Definition plan.name plan.type (Const (length before.entries)) ≡ FamilyOf f)) → family_at S n ≡ Some f
    by (inl at) = ap (option_and_then family_in) ((prefix_keeps prefix).entry n (FamilyOf f) at)
    by (inr (place, same)) = absurd (cc)

-- ---- the law

shown-there : (before S : Signature) (plan : Plan) (c : Reference) (e : Equation) → IsEntered before S plan
    → 0 < length plan.parts → slice_get (part_at plan 0).walks c.clause ≡ Some c.walk
    → some_absurd (pats_of (part_at plan 0) c.clause) ≡ false → equation_of S plan 0 c.clause c.walk ≡ Ok e
    → (us : List Term) × (e.left ≡ applied (Const (number_of S plan.name)) us)
    × AllFit S (λ t. in_signature S plan (under_solution c.walk.binds t)) (pats_of (part_at plan 0) c.clause) c.walk.terms us c.walk.binds
shown-there before S plan c e entered low is clean made = (
  all_shown S written pats c.walk.terms,
  (equation-is S plan 0 pats (side_of (part_at plan 0) c.clause) (walk_site c.walk) e made).left,
  transport (AllFit S written pats c.walk.terms (all_shown S written pats c.walk.terms)) matched.binds
      (all-fit W S written (families-stay before S plan entered.prefix) pats c.walk.terms (matched.matches clean)),
)
  where
    W : Signature
    W = with_function before plan

    pats : Pats
    pats = pats_of (part_at plan 0) c.clause

    written : Term → Term
    written t = in_signature S plan (under_solution c.walk.binds t)

    at : IsClauseThere before plan 0 (part_at plan 0) c.clause c.walk
    at = clause-there before plan entered.planned 0 low c.clause c.walk is

    same : pats ≡ at.pats
    same = get_or_from_slice_get (part_at plan 0).pats c.clause at.pats pattern.nil at.pats_there

    held : IsMatched W at.pats c.walk
    held =
        transport (λ (r : Result Walk TreeStop). Holds (IsMatched W at.pats) (λ e. Unit {0}) r) at.walks
        (walk-matched W (part_at plan 0).tele (part_at plan 0).goal (part_at plan 0).terms at.pats at.binds at.right c.clause at.units at.fits)

    matched : IsMatched W pats c.walk
    matched = transport (λ ps. IsMatched W ps c.walk) (sym same) held

pub left-shows : LeftShows
left-shows before S plan c e entered ref is clean made =
    shown-there before S plan c e entered (transport (λ k. k < length plan.parts) is ref.part)
    (transport (λ k. slice_get (part_at plan k).walks c.clause ≡ Some c.walk) is ref.walk) clean made
