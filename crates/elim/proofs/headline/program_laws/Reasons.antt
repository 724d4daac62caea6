-- No reason of a refusal is empty.
use Rattle.std.proofs.Common.{arith}
use Rattle.elab_session.specs.declared.refusal.Refusal.TheVariants as refusal
use Rattle.elim.specs.headline.program_laws.Laws.{ReasonsAreGiven}

pub reasons-given : ReasonsAreGiven
reasons-given refusal.Memory = omega arith
reasons-given (refusal.Fuel units) = omega arith
reasons-given refusal.Deep = omega arith
reasons-given (refusal.UnknownName offset word) = omega arith
reasons-given (refusal.Duplicate offset word) = omega arith
reasons-given (refusal.WrongArity offset word) = omega arith
reasons-given (refusal.NotLinear offset word) = omega arith
reasons-given refusal.BadFamily = omega arith
reasons-given (refusal.NotPositive name k) = omega arith
reasons-given (refusal.IndexTooLarge owner k) = omega arith
reasons-given (refusal.IllTyped part place ctx reason) = omega arith
reasons-given (refusal.WrongConstructor function clause ctx ty) = omega arith
reasons-given (refusal.Stuck function clause ctx left right why) = omega arith
reasons-given (refusal.Uncovered function ctx terms) = omega arith
reasons-given (refusal.NotAbsurd function clause con) = omega arith
reasons-given (refusal.Impossible function clause ctx left right) = omega arith
reasons-given (refusal.DotMismatch function clause ctx written forced) = omega arith
reasons-given (refusal.SelfInType function clause) = omega arith
reasons-given (refusal.NotSmaller calls) = omega arith
reasons-given (refusal.NotPlainFamily word) = omega arith
reasons-given (refusal.NotDecision word) = omega arith
reasons-given (refusal.NotFirstOrder name k) = omega arith
reasons-given (refusal.TagCount count) = omega arith
reasons-given (refusal.MemberLevel k) = omega arith
reasons-given (refusal.Unequal member con ctx left right) = omega arith
reasons-given (refusal.Rejected entry line place ctx reason) = omega arith
