-- The calls of a source or a sink in memory: how much one may move, and which of them fail.
use Rattle.std.specs.Prelude.{◌≡◌, ℕ, zero, suc, ◌+◌, ◌-◌, ◌^◌, ◌==◌, ◌&&◌, nat_le, min, Bool, if◌then◌else◌, List, Option, Some, None}
use Rattle.std.specs.List.{list_any}

pub record Calls : Type 0 where
  -- the most bytes that one call moves, where there is such a limit
  pub step : Option ℕ
  -- the numbers of the calls that fail, the first call being number 1
  pub fails : List ℕ
  -- how many calls were made, counted up to 2^32 - 1
  pub made : ℕ
  -- how many of them failed
  pub faults : ℕ

-- the call of this number fails: it is listed, and is at most 2^32 - 1
abbrev pub fails_at : List ℕ → ℕ → Bool
fails_at fails number = nat_le number (2 ^ 32 - 1) && list_any (λ listed. listed == number) fails

-- the next call fails
abbrev pub fails_next : Calls → Bool
fails_next c = fails_at c.fails (c.made + 1)

-- no call was made
abbrev pub no_calls : Option ℕ → List ℕ → Calls
no_calls step fails = record { step = step; fails = fails; made = 0; faults = 0 }

-- the calls when one more was made
abbrev pub after_call : Calls → Calls
after_call c =
    record c { made = min (c.made + 1) (2 ^ 32 - 1); faults = if fails_next c then c.faults + 1 else c.faults }

-- the calls of a new object when n were made
abbrev pub after_calls : Option ℕ → List ℕ → ℕ → Calls
after_calls step fails zero = no_calls step fails
after_calls step fails (suc n) = after_call (after_calls step fails n)

-- the calls of a new object are numbered from 1, and fail exactly at the listed numbers
abbrev pub CallsFailAsListed : Type 0
CallsFailAsListed =
    (step : Option ℕ) (fails : List ℕ) (n : ℕ) → fails_next (after_calls step fails n) ≡ fails_at fails (n + 1)

-- how many of n bytes one call moves
abbrev pub piece_len : Option ℕ → ℕ → ℕ
piece_len None n = n
piece_len (Some step) n = min step n
