use Rattle.std.proofs.Common.{◌≡◌, map, take}
use Rattle.core_sig.specs.Raw.{raw_constructor_of}
use Rattle.core_text.specs.Records.{constructor_shown}
use Rattle.shared_text.proofs.shown.shown_constructors.Given as goal

abbrev pub invariant-loop-con : goal.invariant-loop-con
invariant-loop-con l = map raw_constructor_of l.shown ≡ map (constructor_shown l.family l.params) (take l.con-index l.cons)
