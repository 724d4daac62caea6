-- Why a function by clauses is refused, as a refusal of its declaration.
use Rattle.std.specs.Prelude.{ℕ, [], ◌∷◌, map}
use Rattle.clause_reports.specs.elaboration.Refusals as function
use Rattle.clause_reports.specs.elaboration.Refusals.{Part, OfType, OfDot, OfSide, OfWith, OfGoal}
use Rattle.elab_session.specs.Refusals.{stopped}
use Rattle.elab_session.specs.declared.refusal.FailingCall.{FailingCall}
use Rattle.elab_session.specs.declared.refusal.PartName.{PartName}
use Rattle.elab_session.specs.declared.refusal.PartName.TheVariants.{Ty, Dot, Side, With, Goal}
use Rattle.elab_session.specs.declared.refusal.Refusal.{Refusal}
use Rattle.elab_session.specs.declared.refusal.Refusal.TheVariants.{IllTyped, WrongConstructor, Stuck, Uncovered, NotAbsurd, Impossible, DotMismatch, SelfInType, NotSmaller, Rejected}

abbrev pub part_name : Part → PartName
part_name OfType = Ty
part_name (OfDot o) = Dot o.function o.clause
part_name (OfSide o) = Side o.function o.clause
part_name (OfWith o) = With o.function o.clause
part_name (OfGoal o) = Goal o.function o.clause

abbrev pub failing_call : function.FailingCall → FailingCall
failing_call c = record { positions = c.position ∷ []; function = c.owner.function; clause = c.owner.clause; call = c.call }

-- why a function that may spend `fuel` units is refused
abbrev pub refused_function : (fuel : ℕ) → function.Refusal → Refusal
refused_function fuel (function.Halts e) = stopped fuel e
refused_function fuel (function.IllTyped part place context reason) = IllTyped (part_name part) place context reason
refused_function fuel (function.WrongConstructor o context type) = WrongConstructor o.function o.clause context type
refused_function fuel (function.Stuck o context left right why) = Stuck o.function o.clause context left right why
refused_function fuel (function.Uncovered name context terms) = Uncovered name context terms
refused_function fuel (function.NotAbsurd o constructor) = NotAbsurd o.function o.clause constructor
refused_function fuel (function.Impossible o context left right) = Impossible o.function o.clause context left right
refused_function fuel (function.DotMismatch o context written forced) = DotMismatch o.function o.clause context written forced
refused_function fuel (function.SelfInType o) = SelfInType o.function o.clause
refused_function fuel (function.NotSmaller calls) = NotSmaller (map failing_call calls)
refused_function fuel (function.Rejected r) = Rejected r.entry r.line r.place r.context r.reason

-- a walk or a tree of the function ends
abbrev pub IsEnd : function.Refusal → Type 0
IsEnd (function.Halts e) = ⊥
IsEnd (function.IllTyped part place context reason) = ⊥
IsEnd (function.SelfInType o) = ⊥
IsEnd (function.NotSmaller calls) = ⊥
IsEnd (function.Rejected r) = ⊥
IsEnd e = Unit {0}
