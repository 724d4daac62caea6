-- The standings, the term and the names that the code makes of a split are those of the definitions, where each next standing of a run is
-- the one that is meant.
use Rattle.std.specs.Prelude.{◌≡◌, ℕ, List, ◌++◌, Ok}
use Rattle.theory.specs.Terms.{Term}
use Rattle.theory.specs.Families.{Constructor}
use Rattle.theory.specs.Signatures.{Signature}
use Rattle.core_terms.specs.CaseTrees.{Step}
use Rattle.case_trees.specs.Problems.{Member}
use Rattle.tree_translation.specs.Naming.{Naming}
use Rattle.tree_translation.specs.Splits.{Node, branch_standing, split_node, split_names, split_term}
use Rattle.tree_translation.specs.Standings.{Standing}
use Rattle.split_terms.specs.CodeSplits.{standing_made, split_node_made, split_names_made, split_term_made}
use Rattle.split_terms.specs.Laws.{StepsAreThese}

abbrev pub StandingIsThis : Type 0
StandingIsThis =
    (node : Node) (m : Member) (x number : ℕ) (c : Constructor) (s : Standing) → standing_made node m x number c ≡ Ok s →
    s ≡ branch_standing node m x number c

abbrev pub SplitNodeIsTerm : Type 0
SplitNodeIsTerm =
    (S : Signature) → StepsAreThese S → (number : Naming) (L : ℕ) (node : Node) (x : ℕ) (type : Term) (runs : List (List Step)) (ends : List Term) (t : Term) →
    split_node_made S number L node x type runs ends ≡ Ok t → t ≡ split_node S number L node x type runs ends

abbrev pub SplitNamesAreThese : Type 0
SplitNamesAreThese =
    (S : Signature) → StepsAreThese S → (L : ℕ) (node : Node) (x : ℕ) (type : Term) (runs : List (List Step)) (names all : List (List ℕ)) →
    split_names_made S L node x type runs names ≡ Ok all → all ≡ names ++ split_names S L node x type runs

abbrev pub SplitTermIsThis : Type 0
SplitTermIsThis =
    (S : Signature) → StepsAreThese S → (base L : ℕ) (node : Node) (x : ℕ) (type : Term) (runs : List (List Step)) (ends : List Term)
    (names : List (List ℕ)) (r : List (List ℕ) × Term) → split_term_made S base L node x type runs ends names ≡ Ok r →
    split_term S base L node x type runs ends names ≡ record { names = r.0; term = Ok r.1 }
