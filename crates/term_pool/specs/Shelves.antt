-- Nodes in a list, each with its parts before it: the trees that they stand for, and what is kept beside them.
use Rattle.std.specs.Prelude.{◌≡◌, ℕ, zero, suc, ◌<◌, ◌≤◌, Bool, nat_lt, List, length, Option, slice_get, unwrap_or}
use Rattle.theory.specs.Terms as tree
use Rattle.term_pool.specs.declared.node.Node.{Node}
use Rattle.term_pool.specs.declared.node.Node.TheVariants.{Sort}
use Rattle.term_pool.specs.declared.facts.Facts.{Facts}
use Rattle.term_pool.specs.Held.{Held}
use Rattle.term_pool.specs.Nodes.{says, AllParts}
use Rattle.term_pool.specs.declared.row.Key.{Key}
use Rattle.term_pool.specs.declared.row.Row.{Row}

-- what is kept of a tree
abbrev pub facts_of : tree.Term → Facts
facts_of t = record { height = tree.height t; bound = tree.free_of t }

-- what is kept for a place; behind the end that is what is kept of a sort
abbrev pub fact_at : List Facts → ℕ → Facts
fact_at facts i = unwrap_or (slice_get facts i) (record { height = 1; bound = 0 })

module _ {I : Type 0} where
  -- the node at a place, and a sort behind the end
  abbrev pub node_at : List (Node I) → ℕ → Node I
  node_at nodes i = unwrap_or (slice_get nodes i) (Sort 0)

  module _ (place : I → ℕ) where
    -- the tree of the node at a place, where parts are followed so many times
    abbrev pub tree_within : List (Node I) → ℕ → ℕ → tree.Term
    tree_within nodes zero i = tree.Sort 0
    tree_within nodes (suc k) i = says (λ p. tree_within nodes k (place p)) (node_at nodes i)

    -- the tree of the node at a place: its parts are before it, so they are followed no more often than that
    unfoldable pub tree_at : List (Node I) → ℕ → tree.Term
    tree_at nodes i = tree_within nodes (suc i) i

    -- parts come before the whole
    pub record AreInOrder (nodes : List (Node I)) : Type 0 where
      pub each : (i : ℕ) → AllParts (λ p. place p < i) (node_at nodes i)

    -- parts come before the whole, no tree is too high, and beside each node is what is kept of its tree
    pub record AreShelved (nodes : List (Node I)) (facts : List Facts) : Type 0 where
      pub order : AreInOrder nodes
      pub low : (i : ℕ) → tree.height (tree_at nodes i) ≤ 2000
      pub kept : (i : ℕ) → fact_at facts i ≡ facts_of (tree_at nodes i)
      pub lengths : length facts ≡ length nodes

    -- what a store of such nodes holds: an id is live where a node has its place
    abbrev pub shelf_held : List (Node I) → Bool → ℕ → Bool → (ℕ → Key I → Option (Row I)) → ℕ → Held I
    shelf_held nodes full told keeps_rows rows missed =
        record {
          live = λ id. nat_lt (place id) (length nodes);
          tree = λ id. tree_at nodes (place id);
          full = full;
          told = told;
          keeps_rows = keeps_rows;
          rows = rows;
          missed = missed;
        }
