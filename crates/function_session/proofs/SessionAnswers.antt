-- A session after a call, by its parts.
use Rattle.std.proofs.Common.{◌≡◌, ℕ, List, All, Result, Ok, Err, IfOk, OnErr, OnOk, sym, ap, ap₂, subst as transport}
use Rattle.theory.specs.Signatures.{Signature}
use Rattle.surface_syntax.specs.Trees as surf
use Rattle.elab_session.specs.declared.refusal.Refusal.{Refusal}
use Rattle.function_session.specs.Declaring.{decisions_with}
use Rattle.function_session.specs.Elaborating.{Elaborated}
use Rattle.function_session.specs.Meanings.{Answers}
use Rattle.function_session.specs.Sessions.{Session}
use Rattle.function_session.specs.decisions.Laws.{IsHeld}
use Rattle.function_session.specs.declared.accepted.Accepted.{Accepted}
use Rattle.function_session.specs.declared.decisions.decision.Decision.{Decision}

abbrev pub session_of : Signature → List Decision → (fuel : ℕ) → Session
session_of S decisions fuel = record { signature = S; decisions = decisions; fuel = fuel }

-- after a refusal, where its parts are as they were
pub session-same : (T S : Signature) (after before : List Decision) (fuel : ℕ) (r : Result Accepted Refusal) → OnErr r (T ≡ S) → OnErr r (after ≡ before)
    → OnErr r (session_of T after fuel ≡ session_of S before fuel)
session-same T S after before fuel (Ok a) same kept = tt
session-same T S after before fuel (Err e) same kept = ap₂ (λ U decisions. session_of U decisions fuel) same kept

-- after an accepted declaration, where its decisions are those that are meant
pub session-next : (S T : Signature) (before after : List Decision) (fuel : ℕ) (d : surf.Decl) (r : Result Accepted Refusal)
    → OnOk r (after ≡ decisions_with S before d T) → OnOk r (session_of T after fuel ≡ session_of T (decisions_with S before d T) fuel)
session-next S T before after fuel d (Ok a) kept = ap (λ decisions. session_of T decisions fuel) kept
session-next S T before after fuel d (Err e) kept = tt

-- its decisions are there
pub session-held : (S T : Signature) (before after : List Decision) (d : surf.Decl) (r : Result Accepted Refusal) (meant : Result Elaborated Refusal)
    → Answers T r meant → OnErr r (T ≡ S) → OnErr r (after ≡ before) → OnOk r (after ≡ decisions_with S before d T)
    → IfOk meant (λ a. All (IsHeld a.signature) (decisions_with S before d a.signature)) → All (IsHeld S) before → All (IsHeld T) after
session-held S T before after d (Ok a) meant is same kept next h held =
    transport (All (IsHeld T)) (sym next)
    (transport (λ m. IfOk m (λ a. All (IsHeld a.signature) (decisions_with S before d a.signature))) (sym is) h)
session-held S T before after d (Err e) meant is same kept next h held =
    transport (λ ds. All (IsHeld T) ds) (sym kept) (transport (λ U. All (IsHeld U) before) (sym same) held)
