-- Counts that callers compare before and after a call.
use Rattle.std.specs.Prelude.{ℕ, ◌-◌, ◌^◌, ◌<◌, ◌≤◌, ◌⊎◌}

-- a count rose: it is greater than when the call began, or has reached its greatest value, the greatest u64
abbrev pub Rose : ℕ → ℕ → Type 0
Rose before after = (before < after) ⊎ (2 ^ 64 - 1 ≤ after)
