-- Variables of consecutive levels are small.
use Rattle.std.proofs.Common.{ℕ, zero, suc, ◌+◌, ◌≤◌, arith}
use Rattle.core_terms.specs.Levels.{run}
use Rattle.tele_eq.specs.Items.{AreSmallTerms}

pub small-run : (depth start count : ℕ) → depth ≤ 1000000 → AreSmallTerms (run depth start count)
small-run depth start zero le = tt
small-run depth start (suc count) le = ((omega arith, omega arith), small-run depth (start + 1) count le)
