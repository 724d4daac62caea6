-- The reason for which a declaration is refused has its cause at the function that is written; and so has each kind of refusal.
use Rattle.std.proofs.Common.{◌≡◌, ◌⊎◌, ℕ, Result, Ok, Err, refl, sym, subst as transport}
use Rattle.theory.specs.Signatures.{Signature}
use Rattle.surface_syntax.specs.Trees as surf
use Rattle.surface_syntax.specs.declared.tree.Word.{Word}
use Rattle.elab_session.specs.Refusals.{unresolved}
use Rattle.elab_session.specs.Sessions.{IsReady}
use Rattle.elab_session.specs.declared.refusal.Refusal as declared
use Rattle.clause_reports.specs.elaboration.Functions.{Lines}
use Rattle.clause_reports.specs.elaboration.Refusals.{Refusal}
use Rattle.function_session.proofs.function_lines.Provisional.{provisional-over}
use Rattle.function_session.specs.function_lines.Opened.{function_in}
use Rattle.function_session.proofs.Written.{function-scoped}
use Rattle.function_session.specs.Elaborating.{Elaborated, enter_function, on_function, on_lines}
use Rattle.function_session.specs.Refusals.{refused_function}
use Rattle.resolve.specs.Functions.{Function, function}
use Rattle.resolve.specs.declared.stop.ResolveStop.{ResolveStop}
use Rattle.elim.specs.refusal_laws.Causes.{Caused, IsEnd, IsIllTyped, IsMismatch}
use Rattle.elim.specs.refusal_laws.Laws.{DeclarationIsCaused, IllTypedIsDenied, IsRefusedFunction, of_name, of_function, MismatchIsDenied, NotSmallerFails, RejectedIsDenied, UncoveredIsApart}
use Rattle.elim.proofs.refusal_laws.FunctionCauses.{refusal-is_caused}

-- ---- declarations

err-is : {A E : Type 0} (a b : E) → ◌≡◌ {A = Result A E} (Err a) (Err b) → a ≡ b
err-is a b h = cc

-- the reason for which no lines are made
lines-refused : (x : Word) (fuel : ℕ) (r : Result Lines Refusal) (e : declared.Refusal) → on_lines x fuel r ≡ Err e
    → (reason : Refusal) × ((r ≡ Err reason) × (e ≡ refused_function fuel reason))
lines-refused x fuel (Ok l) e is = absurd (cc)
lines-refused x fuel (Err reason) e is = (reason, (refl, sym (err-is {A = Elaborated} (refused_function fuel reason) e is)))

function-refused : (S : Signature) (fuel : ℕ) (x : Word) (ty : surf.Surf) (cs : surf.Clauses) (e : declared.Refusal) → IsReady S
    → (r : Result Function ResolveStop) → function S x ty cs ≡ r → on_function r (enter_function S fuel x) ≡ Err e
    → IsRefusedFunction S fuel (surf.Fun x ty cs) e
function-refused S fuel x ty cs e ready (Ok f) resolved is =
    let p = lines-refused x fuel (function_in S f fuel).0 e is in
    of_function f p.0 resolved
    (refusal-is_caused S f fuel p.0 (provisional-over S f ready (function-scoped S (surf.Fun x ty cs) f resolved)) p.1.0) p.1.1
function-refused S fuel x ty cs e ready (Err stop) resolved is = of_name stop resolved (sym (err-is {A = Elaborated} (unresolved stop) e is))

pub declaration-is_caused : DeclarationIsCaused
declaration-is_caused S fuel x ty cs e ready is = function-refused S fuel x ty cs e ready (function S x ty cs) refl is

-- ---- each for itself

pub uncovered-is_apart : UncoveredIsApart
uncovered-is_apart S f fuel e over is name context vector shown = transport (Caused S f) shown (refusal-is_caused S f fuel e over is)

pub mismatch-is_denied : MismatchIsDenied
mismatch-is_denied S f fuel e over is owner context written forced shown =
    transport (λ r. IsEnd S f r ⊎ IsMismatch S f r) (sym shown) (transport (Caused S f) shown (refusal-is_caused S f fuel e over is))

pub not_smaller-fails : NotSmallerFails
not_smaller-fails S f fuel e over is calls shown = transport (Caused S f) shown (refusal-is_caused S f fuel e over is)

pub rejected-is_denied : RejectedIsDenied
rejected-is_denied S f fuel e over is r shown = transport (Caused S f) shown (refusal-is_caused S f fuel e over is)

pub ill_typed-is_denied : IllTypedIsDenied
ill_typed-is_denied S f fuel e over is part place context reason shown =
    transport IsIllTyped (sym shown) (transport (Caused S f) shown (refusal-is_caused S f fuel e over is))
