-- The term of a tree, its names and the entries of a plan that the code makes are those of the definitions, where each next standing of a
-- run is the one that is meant.
use Rattle.std.specs.Prelude.{◌≡◌, ℕ, List, ◌++◌, Ok}
use Rattle.theory.specs.Terms.{Term}
use Rattle.theory.specs.Signatures.{Signature}
use Rattle.core_terms.specs.CaseTrees.{Tree}
use Rattle.core_sig.specs.Drafts.{Draft}
use Rattle.tree_translation.specs.Entries.{translate}
use Rattle.tree_translation.specs.Plans.{Plan}
use Rattle.tree_translation.specs.Splits.{Node}
use Rattle.tree_translation.specs.TreeTerms.{Translation, tree_names, tree_term}
use Rattle.split_terms.specs.Laws.{StepsAreThese}
use Rattle.function_entries.specs.CodeEntries.{translate_made}
use Rattle.function_entries.specs.CodeTrees.{tree_made, tree_names_made}

abbrev pub TreeIsTerm : Type 0
TreeIsTerm =
    (w : Translation) → StepsAreThese w.signature → (tree : Tree) (node : Node) (t : Term) → tree_made w tree node ≡ Ok t →
    t ≡ tree_term w tree node

abbrev pub TreeNamesAreThese : Type 0
TreeNamesAreThese =
    (S : Signature) → StepsAreThese S → (L : ℕ) (tree : Tree) (node : Node) (names all : List (List ℕ)) →
    tree_names_made S L tree node names ≡ Ok all → all ≡ names ++ tree_names S L tree node

abbrev pub TranslateIsEntries : Type 0
TranslateIsEntries =
    (S : Signature) → StepsAreThese S → (plan : Plan) (drafts : List Draft) → translate_made S plan ≡ Ok drafts →
    translate S plan ≡ Ok drafts
