-- The tower in the place of a term that is too high is too high itself.
use Rattle.std.proofs.Common.{ℕ, zero, suc, ◌<◌, ◌≤◌, arith}
use Rattle.std.proofs.lemmas.List.{map-append}
use Rattle.theory.specs.Terms.{height}
use Rattle.leaf_terms.specs.CodeRightSides.{too_high, tower}

pub ruleset growing_lists = (map-append)

tower-height : (count : ℕ) → count ≤ height (tower count)
unfolding tower
tower-height zero = omega arith
tower-height (suc count) = let inner = tower-height count in omega arith

pub tower-high : 2000 < height too_high
unfolding too_high
tower-high = let high : 2001 ≤ height (tower 2001) = tower-height 2001 in omega (arith, high)
