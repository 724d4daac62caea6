-- The nodes of a store that shares nothing.
use Rattle.std.specs.Prelude.{ℕ, false, List, None}
use Rattle.term_pool.specs.Held.{Held}
use Rattle.term_pool.specs.Shelves.{shelf_held}
use Rattle.term_pool.specs.declared.ids.TreeId.{TreeId}
use Rattle.term_pool.specs.declared.node.Node.{Node}

-- the nodes in the order in which they were made, and the length that the store was told
pub record TreeList : Type 0 where
  pub nodes : List (Node TreeId)
  pub told : ℕ

abbrev pub tree_place : TreeId → ℕ
tree_place id = id.at

-- what the store holds
abbrev pub trees_held : TreeList → Held TreeId
trees_held s = shelf_held tree_place s.nodes false s.told false (λ n key. None) 0
