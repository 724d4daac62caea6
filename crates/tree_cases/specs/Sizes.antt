-- How large trees are: what calls on them fall by.
use Rattle.std.specs.Prelude.{ℕ, ◌+◌}
use Rattle.core_terms.specs.CaseTrees.{Tree, Leaf, Split, Branch, Absurd, Solved, Branches, nil, cons}

abbrev mutual
  pub size_of : Tree → ℕ
  size_of (Leaf clause ctx goal subst terms binds) = 0
  size_of (Split ctx var family ty branches) = 1 + size_of_all branches

  pub size_of_branch : Branch → ℕ
  size_of_branch (Absurd steps ctx left right) = 0
  size_of_branch (Solved steps origin tree) = 1 + size_of tree

  pub size_of_all : Branches → ℕ
  size_of_all nil = 0
  size_of_all (cons branch branches) = 1 + (size_of_branch branch + size_of_all branches)
