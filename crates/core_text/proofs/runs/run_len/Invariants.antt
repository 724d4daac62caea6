use Rattle.std.proofs.Common.{◌≡◌, ◌+◌, ◌-◌, ◌≤◌, drop, length}
use Rattle.core_text.specs.NameRuns.{run_len}
use Rattle.core_text.proofs.runs.run_len.Given as goal

abbrev pub invariant-loop-len : goal.invariant-loop-len
invariant-loop-len l = (l.len ≤ length l.bytes) × (run_len l.bytes ≡ l.len + run_len (drop l.len l.bytes))

abbrev pub decreases-loop-len : goal.decreases-loop-len
decreases-loop-len l = length l.bytes - l.len
