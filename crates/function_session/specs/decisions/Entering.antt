-- How the entry of a decision enters.
use Rattle.std.specs.Prelude.{◌≡◌, ℕ, ◌-◌, Option, Some, None, List, length, Result, Ok, Err}
use Rattle.theory.specs.Families.{Family}
use Rattle.theory.specs.Signatures.{Signature}
use Rattle.core_terms.specs.declared.stop.Stop.{Stop}
use Rattle.core_terms.specs.declared.stop.Stop.TheVariants.{Deep}
use Rattle.core_sig.specs.Drafts.{Draft}
use Rattle.kernel_reduce.specs.Entries.{family_at}
use Rattle.drafts.specs.draft_entering.Conditions.{IsEnterableDraft}
use Rattle.decide_eq.specs.DecisionEntries.{decision_entry}
use Rattle.decide_eq.specs.PlainFamilies.{Known}
use Rattle.clause_reports.specs.elaboration.Refusals as function
use Rattle.elab_session.specs.Refusals.{stopped}
use Rattle.elab_session.specs.declared.refusal.Refusal.{Refusal}
use Rattle.function_session.specs.Refusals.{refused_function}
use Rattle.function_session.specs.declared.decisions.decision.Decision.{Decision}
use Rattle.function_session.specs.declared.decisions.naming.Named.{Named}
use Rattle.function_session.specs.function_lines.Opened.{checked_entered, draft_in}

-- the entry that decides the equality of a family
abbrev pub draft_of_family : Signature → Named → Known → Option Family → Result Draft Stop
draft_of_family S d known (Some f) = decision_entry (length S.entries) d.name d.family f d.into known
draft_of_family S d known None = Err Deep

abbrev pub draft_for : Signature → Named → Known → Result Draft Stop
draft_for S d known = draft_of_family S d known (family_at S d.family)

-- whatever entry is made of the family may enter
abbrev pub MayEnter : Signature → Named → Known → Type 0
MayEnter S d known = (draft : Draft) → draft_for S d known ≡ Ok draft → IsEnterableDraft S draft

abbrev pub or_refused : (fuel : ℕ) → Result Signature function.Refusal → Result Signature Refusal
or_refused fuel (Ok T) = Ok T
or_refused fuel (Err e) = Err (refused_function fuel e)

-- the signature with the draft of a name and all that it needs, where each declaration may spend `fuel` units
abbrev pub Entering : Type 0
Entering = Signature → (fuel : ℕ) → (name : List ℕ) → Draft → Result Signature Refusal

abbrev pub draft_entered : Entering
draft_entered S fuel name d = or_refused fuel (draft_in S name d fuel).0

-- how it enters where no name of a family or of a constructor holds a `!`
abbrev pub draft_meant : Entering
draft_meant S fuel name d = or_refused fuel (checked_entered S name d fuel).0

abbrev pub on_draft : Entering → Signature → (fuel : ℕ) → (name : List ℕ) → Result Draft Stop → Result Signature Refusal
on_draft enter S fuel name (Ok d) = enter S fuel name d
on_draft enter S fuel name (Err e) = Err (stopped fuel e)

abbrev pub decision_entered : Entering → Signature → (fuel : ℕ) → Named → Known → Result Signature Refusal
decision_entered enter S fuel d known = on_draft enter S fuel d.name (draft_for S d known)

-- the decision, where the signature T has its entry at the end
abbrev pub accepted_at : Named → (T : Signature) → Decision
accepted_at d T = record { family = d.family; into = d.into; entry = length T.entries - 1 }
