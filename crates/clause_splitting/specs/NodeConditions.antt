-- The conditions on the nodes of the code: they are over few variables, and their clauses have scoped terms no higher than 2,000.
use Rattle.std.specs.Prelude.{ℕ, List, [], ◌∷◌, length}
use Rattle.theory.specs.Signatures.{Signature}
use Rattle.case_trees.specs.Trees.{Live, Node}
use Rattle.clause_walks.specs.Forgetting.{CoverLive}
use Rattle.clause_walks.specs.PairConditions.{AreKeptPairs}
use Rattle.clause_walks.specs.PointConditions.{IsKeptPoint}

-- the pairs of each of the clauses are over n variables
abbrev pub AreKeptLive : Signature → (n : ℕ) → List Live → Type 0
AreKeptLive S n [] = Unit {0}
AreKeptLive S n (c ∷ live) = AreKeptPairs S n c.pairs × AreKeptLive S n live

-- the state of a tree: each pair with a constructor is at a shared term that is one
pub record IsNodeAt (S : Signature) (node : Node) : Type 0 where
  pub point : IsKeptPoint S node.point
  pub live : AreKeptLive S (length node.point.context) node.live
  pub covers : CoverLive S node.live node.point.terms
