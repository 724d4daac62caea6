use Rattle.std.proofs.Common.{◌≡◌, map, take}
use Rattle.core_sig.specs.SettledParts.{argument_parts, settled_argument}
use Rattle.core_sig.specs.Settling.{settled_number}
use Rattle.core_sig.proofs.settling.settle_arguments.Given as goal

abbrev pub invariant-loop-arg : goal.invariant-loop-arg
invariant-loop-arg l = map argument_parts l.settled ≡ map (settled_argument (settled_number l.sig l.draft.base l.draft.names)) (take l.arg-index l.args)
