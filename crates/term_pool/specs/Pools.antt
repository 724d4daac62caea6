-- The nodes and rows of a pool.
use Rattle.std.specs.Prelude.{◌≡◌, ℕ, ◌<◌, ◌≤◌, true, nat_le, List, length}
use Rattle.term_pool.specs.Held.{Held}
use Rattle.term_pool.specs.Memo.{Rows, row_at}
use Rattle.term_pool.specs.Shelves.{node_at, shelf_held, AreInOrder, AreShelved}
use Rattle.term_pool.specs.declared.facts.Facts.{Facts}
use Rattle.term_pool.specs.declared.ids.Id.{Id}
use Rattle.term_pool.specs.declared.node.Node.{Node}

-- The nodes in the order in which they were made; how many there may be; the length that the pool was told; its rows, and how often
-- there was no memory for one.
pub record Pooled : Type 0 where
  pub nodes : List (Node Id)
  pub cap : ℕ
  pub told : ℕ
  pub rows : Rows
  pub missed : ℕ

abbrev pub id_place : Id → ℕ
id_place id = id.at

-- what the pool holds; it is full where it has as many nodes as there may be
abbrev pub pool_held : Pooled → Held Id
pool_held p = shelf_held id_place p.nodes (nat_le p.cap (length p.nodes)) p.told true (row_at p.rows) p.missed

-- no node is there twice
pub record AreDistinct {I : Type 0} (nodes : List (Node I)) : Type 0 where
  pub each : (i j : ℕ) → i < length nodes → j < length nodes → node_at nodes i ≡ node_at nodes j → i ≡ j

-- parts come before the whole, and no node is there twice
pub record IsWhole (nodes : List (Node Id)) : Type 0 where
  pub order : AreInOrder id_place nodes
  pub distinct : AreDistinct nodes

-- what holds of every pool
pub record IsPool (nodes : List (Node Id)) (facts : List Facts) (cap : ℕ) : Type 0 where
  pub shelved : AreShelved id_place nodes facts
  pub distinct : AreDistinct nodes
  pub room : length nodes ≤ cap
  pub small : cap ≤ 50000000
