use Rattle.std.proofs.Common.{◌≡◌, map, take}
use Rattle.core_sig.specs.SettledParts.{constructor_parts, settled_constructor}
use Rattle.core_sig.specs.Settling.{settled_number}
use Rattle.core_sig.proofs.settling.settle_family.Given as goal

abbrev pub invariant-loop-con : goal.invariant-loop-con
invariant-loop-con l = map constructor_parts l.cons ≡ map (settled_constructor (settled_number l.sig l.draft.base l.draft.names)) (take l.con-index l.con-items)
