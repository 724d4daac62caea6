use Rattle.std.proofs.Common.{◌≡◌, map, take}
use Rattle.core_sig.specs.Raw.{raw_constructor_of}
use Rattle.core_text.specs.Records.{constructor_shown}
use Rattle.elab_session.proofs.shown.constructors_shown.Given as goal

abbrev pub invariant-loop-con : goal.invariant-loop-con
invariant-loop-con l = map raw_constructor_of l.shown ≡ map (constructor_shown l.number l.params) (take l.con-index l.cons)
