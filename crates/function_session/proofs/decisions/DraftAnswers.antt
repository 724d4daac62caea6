-- The answer of a call that adds the draft of a decision, by the answers of the calls inside it.
use Rattle.std.proofs.Common.{◌≡◌, ◌≢◌, ℕ, Option, Some, None, length, Result, Ok, Err, refl, ap, ◌∙◌, subst as transport}
use Rattle.std.specs.Option.{option_map_or}
use Rattle.theory.specs.Families.{Family}
use Rattle.theory.specs.Signatures.{Signature, FamilyOf, IsEntryAt}
use Rattle.core_terms.specs.Answers.{Gives, GivesUnless}
use Rattle.core_terms.specs.declared.stop.Stop.{Stop}
use Rattle.core_terms.specs.declared.stop.Stop.TheVariants as stop
use Rattle.core_sig.specs.Drafts.{draft_of}
use Rattle.core_sig.specs.FamilyShapes.{family_shape}
use Rattle.core_sig.specs.declared.entry.Draft.{Draft}
use Rattle.kernel_reduce.specs.Entries.{family_at}
use Rattle.kernel_reduce.proofs.LookUps.{family-found}
use Rattle.clause_reports.specs.elaboration.Refusals.{Elaborating}
use Rattle.decide_eq.specs.DecisionEntries.{decision_entry}
use Rattle.decide_eq.specs.PlainFamilies.{Known, decidable, plain_family}
use Rattle.decide_eq.specs.declared.stop.DecideStop.{DecideStop}
use Rattle.decide_eq.specs.declared.stop.DecideStop.TheVariants.{NotPlainFamily}
use Rattle.elab_session.specs.Refusals.{IsUnforeseen, stopped}
use Rattle.elab_session.specs.declared.refusal.Refusal.{Refusal}
use Rattle.elab_session.specs.declared.refusal.Refusal.TheVariants.{Memory}
use Rattle.function_checks.specs.function_refusals.RefusalMeanings.{refusal_of}
use Rattle.function_checks.specs.declared.function_refusals.refusal.FunctionRefusal.{FunctionRefusal}
use Rattle.function_checks.specs.declared.function_refusals.refusal.FunctionRefusal.TheVariants as function
use Rattle.function_session.specs.Refusals.{refused_function}
use Rattle.function_session.specs.decisions.Entering.{decision_entered, draft_entered, draft_for, draft_of_family, on_draft, or_refused}
use Rattle.function_session.specs.declared.decisions.naming.Named.{Named}
use Rattle.function_session.proofs.function_lines.Agreeing.{spent}

-- ---- a draft

-- a draft enters
pub draft-enters : (T : Signature) (fuel left : ℕ) (meant : Elaborating Signature) → spent (Ok T) left ≡ meant → Ok T ≡ or_refused fuel meant.0
draft-enters T fuel left meant is = ap (λ (m : Elaborating Signature). or_refused fuel m.0) is

-- or it is refused
pub draft-refused : (fuel left : ℕ) (e : FunctionRefusal) (r : Refusal) (meant : Elaborating Signature)
    → (e ≢ function.Stop stop.Memory → spent (Err (refusal_of e)) left ≡ meant) → (r ≢ Memory → r ≡ refused_function fuel (refusal_of e))
    → r ≢ Memory → Err r ≡ or_refused fuel meant.0
draft-refused fuel left e r meant is told other =
    transport (λ (m : Elaborating Signature). Err r ≡ or_refused fuel m.0)
    (is (λ q. other (told other ∙ ap (λ e. refused_function fuel (refusal_of e)) q)))
    (ap Err (told other))

-- ---- the draft of a family

no-answer : (e : DecideStop) → ◌≡◌ {A = Result (Unit {0}) DecideStop} (Err e) (Ok tt) → ⊥
no-answer e h = cc

-- the draft of a family whose equality can be decided is made of its record
pub drafts : (r : Result Draft Stop) (S : Signature) (d : Named) (known : Known) → plain_family S d.family d.into known ≡ Ok tt
    → ((f : Family) → IsEntryAt S d.family (FamilyOf f) → Gives draft_of r (decision_entry (length S.entries) d.name d.family f d.into known))
    → Gives draft_of r (draft_for S d known)
drafts r S d known plain made = by (family_at S d.family) refl
  where
    by : (o : Option Family) → family_at S d.family ≡ o → Gives draft_of r (draft_of_family S d known o)
    by (Some f) at = made f (family-found S d.family f at)
    by None at =
        absurd (no-answer NotPlainFamily (transport (λ o. option_map_or (λ f. decidable S d.into known (family_shape d.family f)) o (Err NotPlainFamily) ≡ Ok tt) at plain))

-- the draft that is made enters
pub family-enters : (d : Draft) (T : Signature) (r : Result (Unit {0}) Refusal) (S : Signature) (fuel : ℕ) (n : Named) (known : Known)
    → Ok (draft_of d) ≡ draft_for S n known → GivesUnless IsUnforeseen (λ u. T) r (draft_entered S fuel n.name (draft_of d))
    → GivesUnless IsUnforeseen (λ u. T) r (decision_entered draft_entered S fuel n known)
family-enters d T r S fuel n known is enters =
    transport (λ made. GivesUnless IsUnforeseen (λ u. T) r (on_draft draft_entered S fuel n.name made)) is enters

-- or none is made
pub family-stops : (e : Stop) (r : Refusal) (S : Signature) (fuel : ℕ) (n : Named) (known : Known)
    → (e ≢ stop.Memory → Err e ≡ draft_for S n known) → r ≡ stopped fuel e
    → r ≢ Memory → Err r ≡ decision_entered draft_entered S fuel n known
family-stops e r S fuel n known is told other =
    transport (λ made. Err r ≡ on_draft draft_entered S fuel n.name made) (is (λ q. other (told ∙ ap (stopped fuel) q))) (ap Err told)
