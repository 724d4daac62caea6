use Rattle.std.proofs.Common.{◌≡◌, map, take}
use Rattle.core_sig.specs.Raw.{raw_constructor_of}
use Rattle.function_session.proofs.mutual_families.copying.copy_constructors.Given as goal

abbrev pub invariant-loop-con : goal.invariant-loop-con
invariant-loop-con l = map raw_constructor_of l.copies ≡ map raw_constructor_of (take l.con-index l.cons)
