use Rattle.std.proofs.Common.{◌≡◌, ◌+◌, ◌-◌, ◌≤◌, drop, length}
use Rattle.core_text.specs.Heads.{shared}
use Rattle.core_text.proofs.head.shared_len.Given as goal

abbrev pub invariant-loop-len : goal.invariant-loop-len
invariant-loop-len l =
    (l.len ≤ length l.text) × (l.len ≤ length l.other) × (shared l.text l.other ≡ l.len + shared (drop l.len l.text) (drop l.len l.other))

abbrev pub decreases-loop-len : goal.decreases-loop-len
decreases-loop-len l = length l.other - l.len
