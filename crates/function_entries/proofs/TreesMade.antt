-- The term and the names that the code makes of a tree are those that are meant.
use Rattle.std.proofs.Common.{◌≡◌, ℕ, ◌+◌, Option, Some, None, List, [], ◌∷◌, ◌++◌, length, Result, Ok, slice_get, sym, ap, ◌∙◌}
use Rattle.theory.specs.Terms.{Term}
use Rattle.theory.specs.Families.{Constructor}
use Rattle.theory.specs.Signatures.{Signature}
use Rattle.core_terms.specs.Answers.{and_then}
use Rattle.core_terms.specs.CaseTrees as tree
use Rattle.core_terms.specs.CaseTrees.{Step, Tree, Branch, Branches}
use Rattle.core_terms.specs.declared.stop.Stop.{Stop}
use Rattle.core_terms.proofs.Builders.{ok_is}
use Rattle.tele_eq.proofs.Growing.{append-none}
use Rattle.case_trees.specs.Problems.{Member, member_of}
use Rattle.tree_translation.specs.Replays.{behind_run}
use Rattle.tree_translation.specs.Splits.{Node, branch_standing, split_names, split_node}
use Rattle.tree_translation.specs.Standings.{Standing}
use Rattle.tree_translation.specs.TreeTerms.{Translation, branch_end, branch_ends, branch_names, branches_names, next_node, node_behind, node_of, runs_of, tree_names, tree_term, type_in, variable_in}
use Rattle.run_terms.specs.CodeRuns.{after_run, after_step}
use Rattle.run_terms.proofs.MadeTerms.{if-both}
use Rattle.split_terms.specs.CodeSplits.{member_made, standing_made}
use Rattle.split_terms.specs.Laws.{StepsAreThese}
use Rattle.split_terms.proofs.SplitsMade.{found-is, node-is, split-names-are, standing-is}
use Rattle.leaf_terms.proofs.LeafTerms.{leaf-is-term}
use Rattle.function_entries.specs.CodeTrees.{branch_names_made, branches_names_made, end_made, ends_made, names_at_split, names_from, next_made, node_after, node_with, split_at, split_from, tree_made, tree_names_made}
use Rattle.function_entries.specs.Laws.{TreeIsTerm, TreeNamesAreThese}
use Rattle.leaf_terms.proofs.Mentions.{append-append}

-- ---- nodes after runs

run-is : (S : Signature) → StepsAreThese S → (steps : List Step) (s end : Standing) → after_run S steps s ≡ Ok end → end ≡ behind_run S steps s
run-is S these [] s end e = sym (ok_is e)
run-is S these (step ∷ steps) s end e =
    let both = if-both (after_step S s step) (after_run S steps) end e in
    run-is S these steps both.0 end both.2 ∙ ap (behind_run S steps) (these s step both.0 both.1)

with-is : (S : Signature) → StepsAreThese S → (node : Node) (m : Member) (x number : ℕ) (steps : List Step) (c : Constructor) (next : Node)
    → node_with S node m x number steps c ≡ Ok next → next ≡ node_of (behind_run S steps (branch_standing node m x number c))
with-is S these node m x number steps c next e =
    let first = if-both (standing_made node m x number c) (λ s. and_then (after_run S steps s) (λ end. Ok (node_of end))) next e in
    let second = if-both (after_run S steps first.0) (λ end. Ok (node_of end)) next first.2 in
    sym (ok_is second.2)
    ∙ ap node_of
    (run-is S these steps first.0 second.0 second.1 ∙ ap (behind_run S steps) (standing-is node m x number c first.0 first.1))

after-is : (S : Signature) → StepsAreThese S → (node : Node) (m : Member) (x number : ℕ) (steps : List Step) (found : Option Constructor) (next : Node)
    → node_after S node m x number steps found ≡ Ok next → next ≡ node_behind S node m x number steps found
after-is S these node m x number steps None next e = sym (ok_is e)
after-is S these node m x number steps (Some c) next e = with-is S these node m x number steps c next e

next-is : (S : Signature) → StepsAreThese S → (node : Node) (x number : ℕ) (steps : List Step) (m : Option Member) (next : Node)
    → next_made S node x number steps m ≡ Ok next → next ≡ next_node S node x number steps m
next-is S these node x number steps None next e = sym (ok_is e)
next-is S these node x number steps (Some m) next e =
    after-is S these node m x number steps (slice_get m.family.constructors number) next e

-- ---- terms

-- a split, from the terms of its subtrees
split-is : (w : Translation) → StepsAreThese w.signature → (node : Node) (x : ℕ) (type : Term) (branches : Branches)
    (made : Option Member → Result (List Term) Stop) (ends : Option Member → List Term) (t : Term)
    → ((m : Option Member) (all : List Term) → made m ≡ Ok all → all ≡ ends m)
    → split_from w node x type branches made ≡ Ok t
    → t
    ≡ split_node w.signature w.number w.part.level node (variable_in node x) type (runs_of branches) (ends (member_of w.signature type))
split-is w these node x type branches made ends t same e =
    let first = if-both (member_made w.signature type) (λ m. and_then (made m) (split_at w node (variable_in node x) type branches)) t e in
    let second = if-both (made first.0) (split_at w node (variable_in node x) type branches) t first.2 in
    let split = split_node w.signature w.number w.part.level node (variable_in node x) type (runs_of branches) in
    node-is w.signature these w.number w.part.level node (variable_in node x) type (runs_of branches) second.0 t second.2
    ∙ ap split (same first.0 second.0 second.1 ∙ ap ends (found-is w.signature type first.0 first.1))

mutual
  pub tree-is : TreeIsTerm
  tree-is w these (tree.Leaf clause context goal substitution terms binds) node t e =
      leaf-is-term w.number w.plan w.recursions w.part w.order (length node.context) node.hidden clause substitution terms binds t e
  tree-is w these (tree.Split context x n type branches) node t e =
      split-is w these node x (type_in node type) branches
      (λ m. ends_made w branches node (variable_in node x) m 0 [])
      (λ m. branch_ends w branches node (variable_in node x) m 0)
      t
      (λ m all made. ends-are w these branches node (variable_in node x) m 0 [] all made)
      e

  ends-are : (w : Translation) → StepsAreThese w.signature → (branches : Branches) (node : Node) (x : ℕ) (m : Option Member) (number : ℕ) (made all : List Term)
      → ends_made w branches node x m number made ≡ Ok all → all ≡ made ++ branch_ends w branches node x m number
  ends-are w these tree.nil node x m number made all e = sym (ok_is e) ∙ sym (append-none made)
  ends-are w these (tree.cons branch branches) node x m number made all e =
      let both = if-both (end_made w branch node x m number made) (λ all. ends_made w branches node x m (number + 1) all) all e in
      ends-are w these branches node x m (number + 1) both.0 all both.2
      ∙ ap (λ first. first ++ branch_ends w branches node x m (number + 1)) (end-is w these branch node x m number made both.0 both.1)
      ∙ append-append made (branch_end w branch node x m number) (branch_ends w branches node x m (number + 1))

  end-is : (w : Translation) → StepsAreThese w.signature → (branch : Branch) (node : Node) (x : ℕ) (m : Option Member) (number : ℕ) (made all : List Term)
      → end_made w branch node x m number made ≡ Ok all → all ≡ made ++ branch_end w branch node x m number
  end-is w these (tree.Absurd steps context u v) node x m number made all e = sym (ok_is e) ∙ sym (append-none made)
  end-is w these (tree.Solved steps origins subtree) node x m number made all e =
      let first = if-both (next_made w.signature node x number steps m) (λ next. and_then (tree_made w subtree next) (λ t. Ok (made ++ t ∷ []))) all e in
      let second = if-both (tree_made w subtree first.0) (λ t. Ok (made ++ t ∷ [])) all first.2 in
      sym (ok_is second.2)
      ∙ ap (λ t. made ++ t ∷ [])
      (tree-is w these subtree first.0 second.0 second.1
      ∙ ap (tree_term w subtree) (next-is w.signature these node x number steps m first.0 first.1))

-- ---- names

names-split : (S : Signature) → StepsAreThese S → (L : ℕ) (node : Node) (x : ℕ) (type : Term) (branches : Branches) (names : List (List ℕ))
    (made : Option Member → (number : ℕ) → List (List ℕ) → Result (List (List ℕ)) Stop) (subtrees : Option Member → List (List ℕ))
    (all : List (List ℕ))
    → ((m : Option Member) (before all : List (List ℕ)) → made m 0 before ≡ Ok all → all ≡ before ++ subtrees m)
    → names_from S L node x type branches names made ≡ Ok all
    → all ≡ names ++ (split_names S L node (variable_in node x) type (runs_of branches) ++ subtrees (member_of S type))
names-split S these L node x type branches names made subtrees all same e =
    let y = variable_in node x in
    let first = if-both (member_made S type) (λ m. and_then (names_at_split S L node y type branches names) (made m 0)) all e in
    let second = if-both (names_at_split S L node y type branches names) (made first.0 0) all first.2 in
    let own = split_names S L node y type (runs_of branches) in
    same first.0 second.0 all second.2
    ∙ ap (λ before. before ++ subtrees first.0) (split-names-are S these L node y type (runs_of branches) names second.0 second.1)
    ∙ append-append names own (subtrees first.0)
    ∙ ap (λ m. names ++ (own ++ subtrees m)) (found-is S type first.0 first.1)

mutual
  pub tree-names-are : TreeNamesAreThese
  tree-names-are S these L (tree.Leaf clause context goal substitution terms binds) node names all e =
      sym (ok_is e) ∙ sym (append-none names)
  tree-names-are S these L (tree.Split context x n type branches) node names all e =
      names-split S these L node x (type_in node type) branches names
      (branches_names_made S L branches node (variable_in node x))
      (λ m. branches_names S L branches node (variable_in node x) m 0)
      all
      (λ m before all made. branches-names-are S these L branches node (variable_in node x) m 0 before all made)
      e

  branches-names-are : (S : Signature) → StepsAreThese S → (L : ℕ) (branches : Branches) (node : Node) (x : ℕ) (m : Option Member) (number : ℕ)
      (names all : List (List ℕ)) → branches_names_made S L branches node x m number names ≡ Ok all
      → all ≡ names ++ branches_names S L branches node x m number
  branches-names-are S these L tree.nil node x m number names all e = sym (ok_is e) ∙ sym (append-none names)
  branches-names-are S these L (tree.cons branch branches) node x m number names all e =
      let both = if-both (branch_names_made S L branch node x m number names) (λ all. branches_names_made S L branches node x m (number + 1) all) all e in
      branches-names-are S these L branches node x m (number + 1) both.0 all both.2
      ∙ ap (λ first. first ++ branches_names S L branches node x m (number + 1))
      (branch-names-are S these L branch node x m number names both.0 both.1)
      ∙ append-append names (branch_names S L branch node x m number) (branches_names S L branches node x m (number + 1))

  branch-names-are : (S : Signature) → StepsAreThese S → (L : ℕ) (branch : Branch) (node : Node) (x : ℕ) (m : Option Member) (number : ℕ)
      (names all : List (List ℕ)) → branch_names_made S L branch node x m number names ≡ Ok all
      → all ≡ names ++ branch_names S L branch node x m number
  branch-names-are S these L (tree.Absurd steps context u v) node x m number names all e = sym (ok_is e) ∙ sym (append-none names)
  branch-names-are S these L (tree.Solved steps origins subtree) node x m number names all e =
      let both = if-both (next_made S node x number steps m) (λ next. tree_names_made S L subtree next names) all e in
      tree-names-are S these L subtree both.0 names all both.2
      ∙ ap (λ next. names ++ tree_names S L subtree next) (next-is S these node x number steps m both.0 both.1)
