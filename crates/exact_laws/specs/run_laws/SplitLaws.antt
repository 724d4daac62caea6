-- The terms and names of split nodes that the code makes are those that are meant, and are refused only where the term is too high.
use Rattle.std.specs.Prelude.{◌≡◌, ◌≤◌, ℕ, List, ◌++◌, length, Ok, Err}
use Rattle.theory.specs.Terms.{Term, height}
use Rattle.theory.specs.Signatures.{Signature}
use Rattle.core_terms.specs.Answers.{and_then}
use Rattle.core_terms.specs.CaseTrees.{Step}
use Rattle.core_terms.specs.declared.stop.Stop.{Stop}
use Rattle.core_terms.specs.declared.stop.Stop.TheVariants.{Deep}
use Rattle.unification.specs.ScopedStates.{IsReady}
use Rattle.problems.specs.Conditions.{AreBelow}
use Rattle.tree_translation.specs.Conditions.{IsSplit}
use Rattle.tree_translation.specs.Naming.{Naming}
use Rattle.tree_translation.specs.Splits.{Node, split_names, split_node, split_term}
use Rattle.split_terms.specs.CodeSplits.{split_names_made, split_node_made, split_term_made}

-- the term of a split node that the code answers is the one that is meant
abbrev pub SplitMadeIsNode : Type 0
SplitMadeIsNode =
    (S : Signature) (number : Naming) (L : ℕ) (node : Node) (x : ℕ) (type : Term) (runs : List (List Step)) (ends : List Term) (t : Term) →
    split_node_made S number L node x type runs ends ≡ Ok t → t ≡ split_node S number L node x type runs ends

-- the names of a split node that the code answers are those that are meant, after those that are there
abbrev pub SplitNamesAreThese : Type 0
SplitNamesAreThese =
    (S : Signature) (L : ℕ) (node : Node) (x : ℕ) (type : Term) (runs : List (List Step)) (names all : List (List ℕ)) →
    split_names_made S L node x type runs names ≡ Ok all → all ≡ names ++ split_names S L node x type runs

-- No other refusal than Deep is meant.
abbrev pub SplitOnlyDeep : Type 0
SplitOnlyDeep =
    (S : Signature) (number : Naming) (L : ℕ) (node : Node) (x : ℕ) (type : Term) (runs : List (List Step)) (ends : List Term) (e : Stop) →
    split_node_made S number L node x type runs ends ≡ Err e → e ≡ Deep

-- the runs of a split node, whose hidden variables are some of its context
pub record IsRunSplit (S : Signature) (node : Node) (x : ℕ) (type : Term) (runs : List (List Step)) : Type 0 where
  pub ready : IsReady S
  pub split : IsSplit S node x type runs
  pub hidden : AreBelow (length node.context) node.hidden

-- The term of a split node is made where it is no higher than a term may be,
abbrev pub SplitAnswers : Type 0
SplitAnswers =
    (S : Signature) (number : Naming) (L : ℕ) (node : Node) (x : ℕ) (type : Term) (runs : List (List Step)) (ends : List Term) →
    IsRunSplit S node x type runs → height (split_node S number L node x type runs ends) ≤ 2000 →
    split_node_made S number L node x type runs ends ≡ Ok (split_node S number L node x type runs ends)

-- and then so are its names.
abbrev pub SplitNamesAnswer : Type 0
SplitNamesAnswer =
    (S : Signature) (number : Naming) (L : ℕ) (node : Node) (x : ℕ) (type : Term) (runs : List (List Step)) (ends : List Term) (names : List (List ℕ)) →
    IsRunSplit S node x type runs → height (split_node S number L node x type runs ends) ≤ 2000 →
    split_names_made S L node x type runs names ≡ Ok (names ++ split_names S L node x type runs)

-- No other refusal of the names than Deep is meant.
abbrev pub SplitNamesOnlyDeep : Type 0
SplitNamesOnlyDeep =
    (S : Signature) (L : ℕ) (node : Node) (x : ℕ) (type : Term) (runs : List (List Step)) (names : List (List ℕ)) (e : Stop) →
    split_names_made S L node x type runs names ≡ Err e → e ≡ Deep

-- So the code makes the term of a split node with its names, by itself, or answers Deep exactly where the term is too high.
abbrev pub SplitTermIsExact : Type 0
SplitTermIsExact =
    (S : Signature) (base : ℕ) (L : ℕ) (node : Node) (x : ℕ) (type : Term) (runs : List (List Step)) (ends : List Term) (names : List (List ℕ)) →
    IsRunSplit S node x type runs →
    split_term_made S base L node x type runs ends names
    ≡ and_then (split_term S base L node x type runs ends names).term (λ t. Ok ((split_term S base L node x type runs ends names).names, t))
