-- Lexicographic descent: from one pair of terms to another, the first gets smaller, or it stays and the second gets smaller.
use Rattle.std.specs.Prelude.{◌≡◌, ℕ}
use Rattle.theory.specs.Terms.{Term}
use Rattle.theory.specs.Families.{Family}
use Rattle.case_below_gen.specs.StrictParts.{IsStrictPart}

pub data Falls (First Second : Term → Term → Type 0) (to from : Term × Term) : Type 0 where
  by_first : First to.0 from.0 → Falls First Second to from
  by_second : to.0 ≡ from.0 → Second to.1 from.1 → Falls First Second to from

-- to strict parts: in family n for the first term, and in family k for the second
abbrev pub FallsToParts : (n : ℕ) (f : Family) (k : ℕ) (g : Family) → (to from : Term × Term) → Type 0
FallsToParts n f k g to from = Falls (IsStrictPart n f) (IsStrictPart k g) to from
