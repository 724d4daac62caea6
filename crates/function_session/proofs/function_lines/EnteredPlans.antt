-- The drafts of a plan, and the values that its equations name, one after the other.
use Rattle.std.proofs.Common.{◌≡◌, ◌≤◌, ◌-◌, ℕ, Option, Some, None, List, [], ◌∷◌, length, map, take, drop, get_or, Result, Ok, Err, IfOk, refl, sym, ap, ◌∙◌, subst as transport}
use Rattle.theory.specs.Signatures.{Signature}
use Rattle.core_terms.specs.Answers.{and_next}
use Rattle.core_terms.proofs.Answers.{and_next-has}
use Rattle.core_sig.specs.Drafts.{Draft}
use Rattle.family_check.specs.Entering.{Entered}
use Rattle.clause_reports.specs.DraftEntering.{enter_draft_of}
use Rattle.clause_reports.specs.elaboration.Functions.{enter_drafts, enter_plan, enter_values, first_domains, recursion_in}
use Rattle.clause_reports.specs.elaboration.Refusals.{Elaborating, answers, or_halts, owner_of, reporting}
use Rattle.clause_reports.proofs.elaboration.Keeping.{no_report-has}
use Rattle.drafts.proofs.draft_entering.Entered.{next-assoc}
use Rattle.function_checks.specs.function_refusals.RefusalMeanings.{Elaborates}
use Rattle.function_checks.specs.declared.function_refusals.refusal.FunctionRefusal.{FunctionRefusal}
use Rattle.tree_translation.specs.Entries.{translate}
use Rattle.tree_translation.specs.Plans.{Part, Plan}
use Rattle.tree_translation.specs.Recursion.{Recursion}
use Rattle.function_session.specs.function_lines.Conditions.{EnterInTurn}
use Rattle.function_session.specs.function_lines.Opened.{checked_entered}
use Rattle.drafts.specs.draft_entering.Conditions.{IsEnterableDraft}
use Rattle.core_sig.specs.declared.entry.Draft as code
use Rattle.core_sig.specs.Drafts.{draft_of}
use Rattle.function_session.specs.function_lines.Phases.{all_entered, drafts_entered, translated, values_entered, values_in, values_named}
use Rattle.function_session.proofs.function_lines.Slices.{whole-of}
use Rattle.function_session.proofs.function_lines.Agreeing.{spent}
use Rattle.function_session.proofs.plan_laws.ExactPlans.{next-same}

-- ---- drafts

drafts-are : (S : Signature) (name : List ℕ) (drafts : List Draft) (left : ℕ) → drafts_entered S name drafts left ≡ enter_drafts S name drafts left
drafts-are S name [] left = refl
drafts-are S name (d ∷ drafts) left =
    next-assoc (reporting S (owner_of name 0) (enter_draft_of S d left)) (λ e rest. answers (Ok e.signature) rest)
    (λ T rest. drafts_entered T name drafts rest)
    ∙ next-same (reporting S (owner_of name 0) (enter_draft_of S d left)) _ _ (λ e rest is. drafts-are e.signature name drafts rest)

-- those after the first one may enter in turn
turn-goes_on : (S : Signature) (name : List ℕ) (d : Draft) (drafts : List Draft) (left : ℕ) (T : Signature) (rest : ℕ) → EnterInTurn S (d ∷ drafts)
    → spent (Ok T) rest ≡ checked_entered S name d left → EnterInTurn T drafts
turn-goes_on S name d drafts left T rest turn is =
    let P : Entered → Type 0 = λ e. EnterInTurn e.signature drafts in
    let Q : Signature → Type 0 = λ U. EnterInTurn U drafts in
    transport (λ (m : Elaborating Signature). IfOk m.0 Q) (sym is)
    (and_next-has P Q (reporting S (owner_of name 0) (enter_draft_of S d left)) (λ e rest. answers (Ok e.signature) rest)
    (no_report-has P S (owner_of name 0) (enter_draft_of S d left).0 (turn.1 left)) (λ e rest h. h))

module _ (S : Signature) (d : code.Draft) (drafts : List code.Draft) (some : 1 ≤ length drafts) (is : d ≡ get_or drafts 0 d)
    (turn : EnterInTurn S (map draft_of drafts)) where
  first-turn : EnterInTurn S (draft_of d ∷ map draft_of (take (length drafts - 1) (drop 1 drafts)))
  first-turn = transport (λ ds. EnterInTurn S (map draft_of ds)) (sym (whole-of drafts d some is)) turn

  pub first-enters : IsEnterableDraft S (draft_of d)
  first-enters = first-turn.0

  pub turn-after : (name : List ℕ) (left : ℕ) (T : Signature) (rest : ℕ) → spent (Ok T) rest ≡ checked_entered S name (draft_of d) left
      → EnterInTurn T (map draft_of (take (length drafts - 1) (drop 1 drafts)))
  turn-after name left T rest enters = turn-goes_on S name (draft_of d) (map draft_of (take (length drafts - 1) (drop 1 drafts))) left T rest first-turn enters

-- ---- the values

values-are : (T : Signature) (plan : Plan) (r : Option Recursion) (parts : List Part) (end : ℕ)
    → values_entered T plan.name (values_in plan.level parts r) end ≡ enter_values T plan r parts end
values-are T plan None [] end = refl
values-are T plan None (own ∷ []) end = refl
values-are T plan None (own ∷ helper ∷ helpers) end = refl
values-are T plan (Some r) [] end = refl
values-are T plan (Some r) (own ∷ []) end = refl
values-are T plan (Some r) (own ∷ helper ∷ helpers) end = refl

-- ---- the plan

module _ (S : Signature) (plan : Plan) (left : ℕ) where
  abbrev r : Option Recursion
  r = recursion_in S (first_domains plan.arity plan.type) plan.position

  all-are : (drafts : List Draft) (rest : ℕ)
      → all_entered S plan.name drafts (values_named S plan) rest
      ≡ and_next (enter_drafts S plan.name drafts rest) (λ T end. enter_values T plan r plan.parts end)
  all-are drafts rest =
      ap (λ (entered : Elaborating Signature). and_next entered (λ T end. values_entered T plan.name (values_named S plan) end))
      (drafts-are S plan.name drafts rest)
      ∙ next-same (enter_drafts S plan.name drafts rest) _ _ (λ T end e. values-are T plan r plan.parts end)

  pub translated-is : translated S plan left ≡ enter_plan S plan left
  translated-is = next-same (answers (or_halts (translate S plan)) left) _ _ (λ drafts rest e. all-are drafts rest)

-- what is meant holds of the signature after the call
pub entered-has : (P : Signature → Type 0) (T : Signature) (r : Result (Unit {0}) FunctionRefusal) (left : ℕ) (meant : Elaborating Signature)
    → Elaborates (λ u. T) r left meant → IfOk meant.0 P → IfOk r (λ u. P T)
entered-has P T (Ok u) left meant is h = transport (λ (m : Elaborating Signature). IfOk m.0 P) (sym is) h
entered-has P T (Err e) left meant is h = tt
