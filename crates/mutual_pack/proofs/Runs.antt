-- How many variables a run has.
use Rattle.std.proofs.Common.{◌≡◌, ℕ, zero, suc, ◌+◌, length, refl, ap}
use Rattle.core_terms.specs.Levels.{run}

pub length-run : (depth start count : ℕ) → length (run depth start count) ≡ count
length-run depth start zero = refl
length-run depth start (suc count) = ap suc (length-run depth (start + 1) count)
