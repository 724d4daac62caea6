-- The declaration of a decision, phase by phase: its names; whether the equality of the family can be decided, with the decisions into the
-- same family that were accepted before; then the entry, with one count of units that starts at the fuel. The first refusal in this order
-- is the answer.
use Rattle.std.specs.Prelude.{ℕ, List, [], ◌∷◌, ◌++◌, Result, Ok, Err}
use Rattle.theory.specs.Signatures.{Signature}
use Rattle.core_terms.specs.Answers.{and_then}
use Rattle.surface_syntax.specs.declared.tree.Word.{Word}
use Rattle.resolve.specs.declared.stop.ResolveStop.{ResolveStop}
use Rattle.elab_session.specs.Declaring.{accepted_as, or_unresolved}
use Rattle.elab_session.specs.declared.refusal.Refusal.{Refusal}
use Rattle.function_session.specs.Elaborating.{Elaborated, with_lines}
use Rattle.function_session.specs.decisions.Entering.{Entering, accepted_at, decision_entered}
use Rattle.function_session.specs.decisions.Known.{known_into}
use Rattle.function_session.specs.decisions.Naming.{named}
use Rattle.function_session.specs.decisions.Refusals.{decidable}
use Rattle.function_session.specs.declared.decisions.decision.Decision.{Decision}
use Rattle.function_session.specs.declared.decisions.naming.Named.{Named}

-- a decision has no lines
abbrev pub accepted_under : (name : List ℕ) → Result Signature Refusal → Result Elaborated Refusal
accepted_under name (Ok T) = Ok (with_lines (accepted_as name T) [])
accepted_under name (Err e) = Err e

-- once its names are known
abbrev pub declare_named : Entering → Signature → List Decision → (fuel : ℕ) → (family into : Word) → Named → Result Elaborated Refusal
declare_named enter S decisions fuel family into d =
    let known = known_into d.into decisions in
    and_then (decidable S d.family d.into family into known) (λ u. accepted_under d.name (decision_entered enter S fuel d known))

abbrev pub declare_decision : Entering → Signature → List Decision → (fuel : ℕ) → (x family into : Word) → Result Elaborated Refusal
declare_decision enter S decisions fuel x family into =
    and_then (or_unresolved (named S x family into)) (declare_named enter S decisions fuel family into)

-- the accepted decisions, and then this one, whose entry is the last one of T
abbrev pub kept : List Decision → Named → (T : Signature) → List Decision
kept decisions d T = decisions ++ accepted_at d T ∷ []

abbrev pub kept_if : List Decision → Result Named ResolveStop → (T : Signature) → List Decision
kept_if decisions (Ok d) T = kept decisions d T
kept_if decisions (Err e) T = decisions

-- the decisions once this one is accepted, and T is the signature with its entries
abbrev pub decisions_after : Signature → List Decision → (x family into : Word) → (T : Signature) → List Decision
decisions_after S decisions x family into T = kept_if decisions (named S x family into) T
