-- The meanings of the refusals of the code, and how the answers of calls are tied to those that are meant.
use Rattle.std.specs.Prelude.{◌≡◌, ℕ, List, map, Result}
use Rattle.core_terms.specs.Answers.{SpendsFor, StandsFor}
use Rattle.core_terms.specs.declared.stop.Stop.TheVariants.{Memory}
use Rattle.clause_reports.specs.Stops.{Rejection}
use Rattle.clause_reports.specs.elaboration.Refusals as pure
use Rattle.clause_reports.specs.elaboration.Refusals.{Elaborating}
use Rattle.function_checks.specs.declared.function_refusals.refusal.Owner.{Owner}
use Rattle.function_checks.specs.declared.function_refusals.refusal.WrittenPart.{WrittenPart}
use Rattle.function_checks.specs.declared.function_refusals.refusal.WrittenPart.TheVariants as part
use Rattle.function_checks.specs.declared.function_refusals.refusal.FailingCall.{FailingCall}
use Rattle.function_checks.specs.declared.function_refusals.refusal.FunctionRefusal.{FunctionRefusal}
use Rattle.function_checks.specs.declared.function_refusals.refusal.FunctionRefusal.TheVariants.{Stop, IllTyped, WrongConstructor, Stuck, Uncovered, NotAbsurd, Impossible, DotMismatch, SelfInType, NotSmaller, Rejected}

abbrev pub owner_meant : Owner → pure.Owner
owner_meant o = record { function = o.function; clause = o.clause }

abbrev pub part_of : WrittenPart → pure.Part
part_of part.Type = pure.OfType
part_of (part.Dot o) = pure.OfDot (owner_meant o)
part_of (part.Side o) = pure.OfSide (owner_meant o)
part_of (part.With o) = pure.OfWith (owner_meant o)
part_of (part.Goal o) = pure.OfGoal (owner_meant o)

abbrev pub failing_of : FailingCall → pure.FailingCall
failing_of c = record { position = c.position; owner = owner_meant c.owner; call = c.call }

abbrev pub rejection_of : (entry line place context reason : List ℕ) → Rejection
rejection_of entry line place context reason =
    record { entry = entry; line = line; place = place; context = context; reason = reason }

abbrev pub refusal_of : FunctionRefusal → pure.Refusal
refusal_of (Stop e) = pure.Halts e
refusal_of (IllTyped part place ctx reason) = pure.IllTyped (part_of part) place ctx reason
refusal_of (WrongConstructor owner ctx ty) = pure.WrongConstructor (owner_meant owner) ctx ty
refusal_of (Stuck owner ctx left right why) = pure.Stuck (owner_meant owner) ctx left right why
refusal_of (Uncovered function ctx vector) = pure.Uncovered function ctx vector
refusal_of (NotAbsurd owner con) = pure.NotAbsurd (owner_meant owner) con
refusal_of (Impossible owner ctx left right) = pure.Impossible (owner_meant owner) ctx left right
refusal_of (DotMismatch owner ctx written forced) = pure.DotMismatch (owner_meant owner) ctx written forced
refusal_of (SelfInType owner) = pure.SelfInType (owner_meant owner)
refusal_of (NotSmaller rows) = pure.NotSmaller (map failing_of rows)
refusal_of (Rejected entry line place ctx reason) = pure.Rejected (rejection_of entry line place ctx reason)

-- the refusals that nothing rules out: only out of memory
abbrev pub IsUnforeseen : FunctionRefusal → Type 0
IsUnforeseen e = e ≡ Stop Memory

-- the answer with the units that are `left` stands for `meant` by way of `f`, unless memory ran out
abbrev pub Elaborates : {A B : Type 0} → (A → B) → Result A FunctionRefusal → ℕ → Elaborating B → Type 0
Elaborates f result left meant = SpendsFor IsUnforeseen refusal_of f result left meant

-- the answer stands for `meant` by way of `f`, unless memory ran out; no units are spent
abbrev pub Tells : {A B : Type 0} → (A → B) → Result A FunctionRefusal → Result B pure.Refusal → Type 0
Tells f result meant = StandsFor IsUnforeseen refusal_of f result meant
