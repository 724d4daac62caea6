-- The term and the names that the code makes of a run are those of the definitions, where each next standing is the one that is meant.
use Rattle.std.specs.Prelude.{◌≡◌, ℕ, List, ◌++◌, Ok}
use Rattle.theory.specs.Terms.{Term}
use Rattle.theory.specs.Signatures.{Signature}
use Rattle.core_terms.specs.CaseTrees.{Step}
use Rattle.tree_translation.specs.Naming.{Naming}
use Rattle.tree_translation.specs.Replays.{behind_step}
use Rattle.tree_translation.specs.RunTerms.{run_names, run_term}
use Rattle.tree_translation.specs.Standings.{Standing}
use Rattle.run_terms.specs.CodeRuns.{after_step}
use Rattle.split_terms.specs.CodeRunTerms.{run_made, run_names_made}

-- the standings that the code goes on with are those of the definition
abbrev pub StepsAreThese : Signature → Type 0
StepsAreThese S = (s : Standing) (step : Step) (next : Standing) → after_step S s step ≡ Ok next → next ≡ behind_step S s step

abbrev pub RunIsTerm : Type 0
RunIsTerm =
    (S : Signature) → StepsAreThese S → (number : Naming) (L : ℕ) (end : Term) (steps : List Step) (s : Standing) (t : Term) →
    run_made S number L end steps s ≡ Ok t → t ≡ run_term S number L end steps s

abbrev pub NamesAreThese : Type 0
NamesAreThese =
    (S : Signature) → StepsAreThese S → (L : ℕ) (steps : List Step) (s : Standing) (names all : List (List ℕ)) →
    run_names_made S L steps s names ≡ Ok all → all ≡ names ++ run_names S L steps s
