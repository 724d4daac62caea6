use Rattle.std.proofs.Common.{◌≡◌, map, drop}
use Rattle.std.specs.List.{position_from}
use Rattle.core_sig.specs.Instances.{is_instance}
use Rattle.core_sig.specs.Meanings.{entry_of}
use Rattle.core_sig.proofs.instance_place.place_of.Given as goal

abbrev pub invariant-loop-at : goal.invariant-loop-at
invariant-loop-at l =
    position_from (is_instance l.wanted) 0 (map entry_of l.fn.entries)
    ≡ position_from (is_instance l.wanted) l.at (map entry_of (drop l.at l.fn.entries))
