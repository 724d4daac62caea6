-- Where a node goes in a set of nodes with their facts beside them.
use Rattle.std.specs.Prelude.{◌≡◌, ◌≢◌, ℕ, ◌<◌, ◌≤◌, ◌⊎◌, List, [], ◌∷◌, ◌++◌, length}
use Rattle.term_pool.specs.Shelves.{node_at}
use Rattle.term_pool.specs.declared.facts.Facts.{Facts}
use Rattle.term_pool.specs.declared.ids.Id.{Id}
use Rattle.term_pool.specs.declared.node.Node.{Node}

-- the node is at no place
abbrev pub IsNowhere : List (Node Id) → Node Id → Type 0
IsNowhere nodes n = (i : ℕ) → i < length nodes → node_at nodes i ≢ n

-- the node was at the place, and nothing changes
pub record IsThere (n : Node Id) (nodes : List (Node Id)) (facts : List Facts) (nodes' : List (Node Id)) (facts' : List Facts) (at : ℕ) : Type 0 where
  pub less : at < length nodes
  pub here : node_at nodes at ≡ n
  pub same : nodes' ≡ nodes
  pub kept : facts' ≡ facts

-- the node was nowhere, and goes to the end with its facts
pub record IsAdded (n : Node Id) (f : Facts) (room : ℕ) (nodes : List (Node Id)) (facts : List Facts) (nodes' : List (Node Id)) (facts' : List Facts) (at : ℕ) : Type 0 where
  pub last : at ≡ length nodes
  pub spare : length nodes < room
  pub low : f.height ≤ 2000
  pub nowhere : IsNowhere nodes n
  pub longer : nodes' ≡ nodes ++ n ∷ []
  pub noted : facts' ≡ facts ++ f ∷ []

abbrev pub IsPlaced : Node Id → Facts → ℕ → List (Node Id) → List Facts → List (Node Id) → List Facts → ℕ → Type 0
IsPlaced n f room nodes facts nodes' facts' at = IsThere n nodes facts nodes' facts' at ⊎ IsAdded n f room nodes facts nodes' facts' at
