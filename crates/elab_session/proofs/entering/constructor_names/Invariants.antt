use Rattle.std.proofs.Common.{◌≡◌, map, take}
use Rattle.core_sig.specs.Raw.{raw_constructor_of}
use Rattle.elab_session.proofs.entering.constructor_names.Given as goal

abbrev pub invariant-loop-con : goal.invariant-loop-con
invariant-loop-con l = l.names ≡ map (λ c. c.name) (map raw_constructor_of (take l.con-index l.cons))
