-- The term of a case tree, over the context from which it starts, with the hidden variables of the below values.
use Rattle.std.specs.Prelude.{ℕ, ◌+◌, Option, Some, None, List, [], ◌∷◌, ◌++◌, length, slice_get}
use Rattle.theory.specs.Terms.{Term}
use Rattle.theory.specs.Families.{Constructor}
use Rattle.theory.specs.Signatures.{Signature}
use Rattle.core_terms.specs.CaseTrees as tree
use Rattle.core_terms.specs.CaseTrees.{Step, Tree, Branch, Branches}
use Rattle.case_trees.specs.Problems.{Member, member_of}
use Rattle.tree_translation.specs.Naming.{Naming}
use Rattle.tree_translation.specs.Hidden.{widened, widened_number}
use Rattle.tree_translation.specs.Standings.{Standing}
use Rattle.tree_translation.specs.Replays.{behind_run}
use Rattle.tree_translation.specs.Splits.{Node, branch_standing, split_node, split_names}
use Rattle.tree_translation.specs.Plans.{Plan, Part}
use Rattle.tree_translation.specs.Recursion.{NamedRecursion}
use Rattle.tree_translation.specs.RightSides.{leaf_term}

-- the common parts of the leaves of a tree
pub record Translation : Type 0 where
  pub signature : Signature
  pub number : Naming
  pub plan : Plan
  pub recursions : List NamedRecursion
  pub part : Part
  pub order : List ℕ

-- a node's type and variable over its whole context
abbrev pub type_in : Node → Term → Term
type_in node type = widened (length node.context) node.hidden type

abbrev pub variable_in : Node → (x : ℕ) → ℕ
variable_in node x = widened_number (length node.context) node.hidden x

abbrev pub node_of : Standing → Node
node_of s = record { context = s.state.context; goal = s.goal; hidden = s.hidden }

abbrev pub node_behind : Signature → Node → Member → (x number : ℕ) → List Step → Option Constructor → Node
node_behind S node m x number steps None = node
node_behind S node m x number steps (Some c) = node_of (behind_run S steps (branch_standing node m x number c))

-- the node after a run of constructor `number`
abbrev pub next_node : Signature → Node → (x number : ℕ) → List Step → Option Member → Node
next_node S node x number steps None = node
next_node S node x number steps (Some m) =
    node_behind S node m x number steps (slice_get m.family.constructors number)

abbrev pub steps_of : Branch → List Step
steps_of (tree.Absurd steps context u v) = steps
steps_of (tree.Solved steps origins subtree) = steps

-- the steps of all branches
abbrev pub runs_of : Branches → List (List Step)
runs_of tree.nil = []
runs_of (tree.cons branch branches) = steps_of branch ∷ runs_of branches

abbrev mutual
  -- the term of a tree at a node
  pub tree_term : Translation → Tree → Node → Term
  tree_term w (tree.Leaf clause context goal substitution terms binds) node =
      leaf_term w.number w.plan w.recursions w.part w.order (length node.context) node.hidden clause substitution terms binds
  tree_term w (tree.Split context x n type branches) node =
      split_node w.signature w.number w.part.level node (variable_in node x) (type_in node type) (runs_of branches)
      (branch_ends w branches node (variable_in node x) (member_of w.signature (type_in node type)) 0)

  -- the terms of the subtrees of a split on variable x, from constructor `number` on, each over the last context of its branch's run
  pub branch_ends : Translation → Branches → Node → (x : ℕ) → Option Member → (number : ℕ) → List Term
  branch_ends w tree.nil node x m number = []
  branch_ends w (tree.cons branch branches) node x m number =
      branch_end w branch node x m number ++ branch_ends w branches node x m (number + 1)

  -- that of a solved branch
  pub branch_end : Translation → Branch → Node → (x : ℕ) → Option Member → (number : ℕ) → List Term
  branch_end w (tree.Absurd steps context u v) node x m number = []
  branch_end w (tree.Solved steps origins subtree) node x m number =
      tree_term w subtree (next_node w.signature node x number steps m) ∷ []

-- ---- the names that it may mention

abbrev mutual
  pub tree_names : Signature → (L : ℕ) → Tree → Node → List (List ℕ)
  tree_names S L (tree.Leaf clause context goal substitution terms binds) node = []
  tree_names S L (tree.Split context x n type branches) node =
      split_names S L node (variable_in node x) (type_in node type) (runs_of branches)
      ++ branches_names S L branches node (variable_in node x) (member_of S (type_in node type)) 0

  pub branches_names : Signature → (L : ℕ) → Branches → Node → (x : ℕ) → Option Member → (number : ℕ) → List (List ℕ)
  branches_names S L tree.nil node x m number = []
  branches_names S L (tree.cons branch branches) node x m number =
      branch_names S L branch node x m number ++ branches_names S L branches node x m (number + 1)

  pub branch_names : Signature → (L : ℕ) → Branch → Node → (x : ℕ) → Option Member → (number : ℕ) → List (List ℕ)
  branch_names S L (tree.Absurd steps context u v) node x m number = []
  branch_names S L (tree.Solved steps origins subtree) node x m number =
      tree_names S L subtree (next_node S node x number steps m)
