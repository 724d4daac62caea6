-- The nodes of a store over a pool that it only reads.
use Rattle.std.specs.Prelude.{ℕ, false, nat_le, List, ◌++◌, length, None}
use Rattle.term_pool.specs.Held.{Held}
use Rattle.term_pool.specs.Pools.{Pooled, IsPool, id_place}
use Rattle.term_pool.specs.Shelves.{shelf_held}
use Rattle.term_pool.specs.declared.facts.Facts.{Facts}
use Rattle.term_pool.specs.declared.ids.Id.{Id}
use Rattle.term_pool.specs.declared.node.Node.{Node}

-- the pool; the nodes beside its own, in the order in which they were made; and the length that the store was told
pub record Layered : Type 0 where
  pub base : Pooled
  pub nodes : List (Node Id)
  pub told : ℕ

-- the nodes of the pool, and those beside them
abbrev pub all_nodes : Layered → List (Node Id)
all_nodes l = l.base.nodes ++ l.nodes

-- the trees that the store holds: it has the room of the pool, and keeps no rows
abbrev pub layer_held : Layered → Held Id
layer_held l = shelf_held id_place (all_nodes l) (nat_le l.base.cap (length (all_nodes l))) l.told false (λ n key. None) 0

-- together with the nodes of a pool these are the nodes of a pool
pub record IsLayer (below : List (Node Id)) (cap : ℕ) (nodes : List (Node Id)) (facts : List Facts) : Type 0 where
  pub whole : (kept : List Facts) → IsPool below kept cap → IsPool (below ++ nodes) (kept ++ facts) cap
