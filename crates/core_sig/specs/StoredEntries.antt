-- How a signature keeps the terms of its entries in a pool, so that it can go back to its first entries.
use Rattle.std.specs.Prelude.{◌≡◌, Some, None, ℕ, ◌≤◌, true, false, List, length, take, slice_get}
use Rattle.theory.specs.Signatures.{Entry}
use Rattle.term_pool.specs.Held.{Held}
use Rattle.term_pool.specs.Pools.{id_place}
use Rattle.term_pool.specs.Shelves.{shelf_held}
use Rattle.term_pool.specs.declared.ids.Id.{Id}
use Rattle.term_pool.specs.declared.ids.Mark.{Mark}
use Rattle.term_pool.specs.declared.node.Node.{Node}
use Rattle.core_sig.specs.EntryIds.{StandsAt, Correspond}
use Rattle.core_sig.specs.declared.entry_ids.EntryId.{EntryId}
use Rattle.core_sig.specs.declared.storing.Terms.{Terms}

-- the trees that a pool of such nodes holds, without room or rows
abbrev pub nodes_held : List (Node Id) → Held Id
nodes_held nodes = shelf_held id_place nodes false 0 true (λ n key. None) 0

-- The ids stand for the entries, and the first n ids stand for the first n entries where the pool is cut to the nodes that it had
-- before entry n.
pub record AreStored (nodes : List (Node Id)) (entries : List Entry) (ids : List (EntryId Id)) (marks : List Mark) : Type 0 where
  pub now : Correspond (StandsAt (nodes_held nodes) entries) entries ids
  pub count : length marks ≡ length entries
  pub before : (n : ℕ) (m : Mark) → slice_get marks n ≡ Some m
      → Correspond (StandsAt (nodes_held (take m.len nodes)) (take n entries)) (take n entries) (take n ids)
  pub within : (n : ℕ) (m : Mark) → slice_get marks n ≡ Some m → m.len ≤ length nodes
  pub rising : (i n : ℕ) (a m : Mark) → i ≤ n → slice_get marks i ≡ Some a → slice_get marks n ≡ Some m → a.len ≤ m.len

-- the terms of the entries
abbrev pub HasTerms : Terms → List Entry → Type 0
HasTerms t entries = AreStored t.pool.nodes entries t.ids.entries.items t.marks.items
