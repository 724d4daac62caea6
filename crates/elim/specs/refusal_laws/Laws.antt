-- The laws of the refusals of functions by clauses.
use Rattle.std.specs.Prelude.{◌≡◌, ◌⊎◌, ℕ, Ok, Err, List}
use Rattle.theory.specs.Signatures.{Signature}
use Rattle.clause_reports.specs.Stops.{Rejection}
use Rattle.elab_session.specs.Refusals.{unresolved}
use Rattle.elab_session.specs.Sessions.{IsReady}
use Rattle.elab_session.specs.declared.refusal.Refusal as session
use Rattle.elab_session.specs.declared.refusal.Refusal.TheVariants as reason
use Rattle.clause_reports.specs.elaboration.Functions.{function_of}
use Rattle.clause_reports.specs.elaboration.Refusals as refusal
use Rattle.clause_reports.specs.elaboration.Refusals.{FailingCall, Owner, Part, Refusal}
use Rattle.function_session.specs.function_lines.Conditions.{IsFunctionOver}
use Rattle.function_session.specs.function_lines.Opened.{function_in}
use Rattle.function_session.specs.Declaring.{declared_in}
use Rattle.function_session.specs.Elaborating.{elaborate_of}
use Rattle.function_session.specs.Sessions.{Session}
use Rattle.function_session.specs.Refusals.{refused_function}
use Rattle.resolve.specs.Functions.{Function, resolve_fun}
use Rattle.resolve.specs.declared.stop.ResolveStop.{ResolveStop}
use Rattle.surface_syntax.specs.Trees.{Clauses, Decide, Decl, Fun, Surf}
use Rattle.surface_syntax.specs.declared.tree.Word.{Word}
use Rattle.elim.specs.refusal_laws.Causes.{AreFailing, Caused, IsDenied, IsEnd, IsIllTyped, IsMismatch, IsUncovered}
use Rattle.elim.specs.written_functions.Clauses.{with_own}

-- a property of each refusal of a resolved function
abbrev pub OfRefusals : (Signature → Function → Refusal → Type 0) → Type 0
OfRefusals Holds =
    (S : Signature) (f : Function) (fuel : ℕ) (e : Refusal) → IsFunctionOver (with_own S f) f → (function_in S f fuel).0 ≡ Err e → Holds S f e

abbrev pub RefusalIsCaused : Type 0
RefusalIsCaused = OfRefusals Caused

-- Each refusal that is meant where no name of a family or of a constructor holds a `!` has its cause too.
abbrev pub MeantIsCaused : Type 0
MeantIsCaused =
    (S : Signature) (f : Function) (fuel : ℕ) (e : Refusal) → IsFunctionOver (with_own S f) f → (function_of S f fuel).0 ≡ Err e →
    Caused S f e

-- The declaration of a function is refused since a name in it does not resolve, or for a reason that has its cause at the function that
-- is written.
pub data IsRefusedFunction (S : Signature) (fuel : ℕ) (d : Decl) (e : session.Refusal) : Type 0 where
  of_name : (stop : ResolveStop) → resolve_fun S d ≡ Err stop → e ≡ unresolved stop → IsRefusedFunction S fuel d e
  of_function : (f : Function) (reason : Refusal) → resolve_fun S d ≡ Ok f → Caused S f reason → e ≡ refused_function fuel reason
      → IsRefusedFunction S fuel d e

abbrev pub DeclarationIsCaused : Type 0
DeclarationIsCaused =
    (S : Signature) (fuel : ℕ) (x : Word) (ty : Surf) (clauses : Clauses) (e : session.Refusal) → IsReady S
    → elaborate_of S fuel (Fun x ty clauses) ≡ Err e → IsRefusedFunction S fuel (Fun x ty clauses) e

-- ---- each for itself

-- Uncovered: the arguments that are shown are apart from all clauses of the part.
abbrev pub UncoveredIsApart : Type 0
UncoveredIsApart =
    OfRefusals (λ S f e. (function context vector : List ℕ) → e ≡ refusal.Uncovered function context vector → IsUncovered S f function context vector)

-- DotMismatch: the two terms that are shown do not convert at the units given; or a pattern met a term that is neither a variable nor a
-- constructor.
abbrev pub MismatchIsDenied : Type 0
MismatchIsDenied =
    OfRefusals (λ S f e. (owner : Owner) (context written forced : List ℕ) → e ≡ refusal.DotMismatch owner context written forced →
    IsEnd S f e ⊎ IsMismatch S f e)

-- NotSmaller: one failing call is shown for each position that admits recursion.
abbrev pub NotSmallerFails : Type 0
NotSmallerFails = OfRefusals (λ S f e. (calls : List FailingCall) → e ≡ refusal.NotSmaller calls → AreFailing S f calls)

-- Rejected: the entry that is shown is one that the checker rejects.
abbrev pub RejectedIsDenied : Type 0
RejectedIsDenied = OfRefusals (λ S f e. (r : Rejection) → e ≡ refusal.Rejected r → IsDenied r)

-- IllTyped: the checker rejects the part that is named, or its level is too high.
abbrev pub IllTypedIsDenied : Type 0
IllTypedIsDenied =
    OfRefusals (λ S f e. (part : Part) (place context reason : List ℕ) → e ≡ refusal.IllTyped part place context reason → IsIllTyped e)

-- ---- decisions of equality

-- Rejected: the entry that is shown is one that the checker rejects.
abbrev pub RejectedDecisionIsDenied : Type 0
RejectedDecisionIsDenied =
    (s : Session) (x family into : Word) (r : Rejection) → IsReady s.signature
    → declared_in s (Decide x family into) ≡ Err (reason.Rejected r.entry r.line r.place r.context r.reason) → IsDenied r
