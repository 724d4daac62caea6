use Rattle.std.proofs.Common.{◌≡◌, ◌≤◌, take, map, length}
use Rattle.core_sig.specs.Meanings.{entry_of}
use Rattle.core_sig.specs.Names.{named}
use Rattle.core_sig.proofs.signature.names_before.Given as goal

abbrev pub invariant-loop-at : goal.invariant-loop-at
invariant-loop-at l =
    (l.len ≤ l.at)
    × (l.at ≤ length l.entries)
    × (l.names ≡ length (named 0 (map entry_of (take l.at l.entries))))

abbrev pub decreases-loop-at : goal.decreases-loop-at
decreases-loop-at l = l.at
