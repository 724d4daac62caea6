-- The terms and the names of case trees as the code makes them: Deep comes where a split node, a leaf or a run is Deep.
use Rattle.std.specs.Prelude.{ℕ, ◌+◌, Option, Some, None, List, [], ◌∷◌, ◌++◌, length, Result, Ok, slice_get}
use Rattle.theory.specs.Terms.{Term}
use Rattle.theory.specs.Families.{Constructor}
use Rattle.theory.specs.Signatures.{Signature}
use Rattle.core_terms.specs.Answers.{and_then}
use Rattle.core_terms.specs.CaseTrees as tree
use Rattle.core_terms.specs.CaseTrees.{Step, Tree, Branch, Branches}
use Rattle.core_terms.specs.declared.stop.Stop.{Stop}
use Rattle.case_trees.specs.Problems.{Member}
use Rattle.tree_translation.specs.Splits.{Node}
use Rattle.tree_translation.specs.TreeTerms.{Translation, node_of, runs_of, type_in, variable_in}
use Rattle.run_terms.specs.CodeRuns.{after_run}
use Rattle.split_terms.specs.CodeSplits.{member_made, split_names_made, split_node_made, standing_made}
use Rattle.leaf_terms.specs.CodeRightSides.{leaf_made}

-- ---- nodes after runs

abbrev pub node_with : Signature → Node → Member → (x number : ℕ) → List Step → Constructor → Result Node Stop
node_with S node m x number steps c =
    and_then (standing_made node m x number c) (λ s. and_then (after_run S steps s) (λ end. Ok (node_of end)))

abbrev pub node_after : Signature → Node → Member → (x number : ℕ) → List Step → Option Constructor → Result Node Stop
node_after S node m x number steps None = Ok node
node_after S node m x number steps (Some c) = node_with S node m x number steps c

-- the node after a run of constructor `number`
abbrev pub next_made : Signature → Node → (x number : ℕ) → List Step → Option Member → Result Node Stop
next_made S node x number steps None = Ok node
next_made S node x number steps (Some m) = node_after S node m x number steps (slice_get m.family.constructors number)

-- ---- terms

abbrev pub leaf_at : Translation → Node → (clause : ℕ) → (substitution terms binds : List Term) → Result Term Stop
leaf_at w node clause substitution terms binds =
    leaf_made w.number w.plan w.recursions w.part w.order (length node.context) node.hidden clause substitution terms binds

abbrev pub split_at : Translation → Node → (x : ℕ) (type : Term) → Branches → (ends : List Term) → Result Term Stop
split_at w node x type branches ends =
    split_node_made w.signature w.number w.part.level node x type (runs_of branches) ends

-- that of a split on a variable whose type over the whole context is given, from the terms of its subtrees
abbrev pub split_from : Translation → Node → (x : ℕ) (type : Term) → Branches → (ends : Option Member → Result (List Term) Stop) → Result Term Stop
split_from w node x type branches ends =
    and_then (member_made w.signature type) (λ m. and_then (ends m) (split_at w node (variable_in node x) type branches))

abbrev mutual
  -- the term of a tree at a node
  pub tree_made : Translation → Tree → Node → Result Term Stop
  tree_made w (tree.Leaf clause context goal substitution terms binds) node = leaf_at w node clause substitution terms binds
  tree_made w (tree.Split context x n type branches) node =
      split_from w node x (type_in node type) branches (λ m. ends_made w branches node (variable_in node x) m 0 [])

  -- terms, followed by those of the subtrees of a split on variable x, from constructor `number` on, each over the last context of its
  -- branch's run
  pub ends_made : Translation → Branches → Node → (x : ℕ) → Option Member → (number : ℕ) → (made : List Term) → Result (List Term) Stop
  ends_made w tree.nil node x m number made = Ok made
  ends_made w (tree.cons branch branches) node x m number made =
      and_then (end_made w branch node x m number made) (λ all. ends_made w branches node x m (number + 1) all)

  -- terms, followed by that of a solved branch
  pub end_made : Translation → Branch → Node → (x : ℕ) → Option Member → (number : ℕ) → (made : List Term) → Result (List Term) Stop
  end_made w (tree.Absurd steps context u v) node x m number made = Ok made
  end_made w (tree.Solved steps origins subtree) node x m number made =
      and_then (next_made w.signature node x number steps m) (λ next.
      and_then (tree_made w subtree next) (λ t. Ok (made ++ t ∷ [])))

abbrev pub split_made : Translation → Branches → Node → (x : ℕ) (type : Term) → Result Term Stop
split_made w branches node x type =
    split_from w node x type branches (λ m. ends_made w branches node (variable_in node x) m 0 [])

-- ---- the names that they may mention, after those that are there

abbrev pub names_at_split : Signature → (L : ℕ) → Node → (x : ℕ) (type : Term) → Branches → (names : List (List ℕ)) → Result (List (List ℕ)) Stop
names_at_split S L node x type branches names = split_names_made S L node x type (runs_of branches) names

-- those of a split on a variable whose type over the whole context is given
abbrev pub names_from : Signature → (L : ℕ) → Node → (x : ℕ) (type : Term) → Branches → (names : List (List ℕ))
    → (subtrees : Option Member → (number : ℕ) → List (List ℕ) → Result (List (List ℕ)) Stop) → Result (List (List ℕ)) Stop
names_from S L node x type branches names subtrees =
    and_then (member_made S type) (λ m.
    and_then (names_at_split S L node (variable_in node x) type branches names) (subtrees m 0))

abbrev mutual
  pub tree_names_made : Signature → (L : ℕ) → Tree → Node → (names : List (List ℕ)) → Result (List (List ℕ)) Stop
  tree_names_made S L (tree.Leaf clause context goal substitution terms binds) node names = Ok names
  tree_names_made S L (tree.Split context x n type branches) node names =
      names_from S L node x (type_in node type) branches names (branches_names_made S L branches node (variable_in node x))

  pub branches_names_made : Signature → (L : ℕ) → Branches → Node → (x : ℕ) → Option Member → (number : ℕ) → (names : List (List ℕ))
      → Result (List (List ℕ)) Stop
  branches_names_made S L tree.nil node x m number names = Ok names
  branches_names_made S L (tree.cons branch branches) node x m number names =
      and_then (branch_names_made S L branch node x m number names) (λ all. branches_names_made S L branches node x m (number + 1) all)

  pub branch_names_made : Signature → (L : ℕ) → Branch → Node → (x : ℕ) → Option Member → (number : ℕ) → (names : List (List ℕ))
      → Result (List (List ℕ)) Stop
  branch_names_made S L (tree.Absurd steps context u v) node x m number names = Ok names
  branch_names_made S L (tree.Solved steps origins subtree) node x m number names =
      and_then (next_made S node x number steps m) (λ next. tree_names_made S L subtree next names)

abbrev pub names_made : Signature → (L : ℕ) → Branches → Node → (x : ℕ) (type : Term) → (names : List (List ℕ)) → Result (List (List ℕ)) Stop
names_made S L branches node x type names =
    names_from S L node x type branches names (branches_names_made S L branches node (variable_in node x))

-- ---- those of the subtrees of a split, from their nodes

-- the first of the nodes that are left, or the node that was split where none is
abbrev pub first_node : List Node → (node : Node) → Node
first_node [] node = node
first_node (first ∷ later) node = first

abbrev pub later_nodes : List Node → List Node
later_nodes [] = []
later_nodes (first ∷ later) = later

abbrev pub subtree_names : Signature → (L : ℕ) → Branch → Node → (names : List (List ℕ)) → Result (List (List ℕ)) Stop
subtree_names S L (tree.Absurd steps context u v) node names = Ok names
subtree_names S L (tree.Solved steps origins subtree) node names = tree_names_made S L subtree node names

abbrev pub subtrees_names : Signature → (L : ℕ) → Branches → Node → (nodes : List Node) → (names : List (List ℕ)) → Result (List (List ℕ)) Stop
subtrees_names S L tree.nil node nodes names = Ok names
subtrees_names S L (tree.cons branch branches) node nodes names =
    and_then (subtree_names S L branch (first_node nodes node) names) (subtrees_names S L branches node (later_nodes nodes))
