-- How large pairs are: the measure by which calls on them fall.
use Rattle.std.specs.Prelude.{ℕ, ◌+◌}
use Rattle.case_trees.specs.Pairs.{Pair, Pairs, Builds, nil, cons}

abbrev mutual
  pub size_of : Pair → ℕ
  size_of (Builds n number ps pairs) = 1 + size_of_all pairs
  size_of _ = 0

  pub size_of_all : Pairs → ℕ
  size_of_all nil = 0
  size_of_all (cons pair pairs) = 1 + (size_of pair + size_of_all pairs)
