-- The terms and names of runs that the code makes are those that are meant, and are refused only where the term is too high.
use Rattle.std.specs.Prelude.{◌≡◌, ◌≤◌, ℕ, List, ◌++◌, Ok, Err}
use Rattle.theory.specs.Terms.{Term, height}
use Rattle.theory.specs.Signatures.{Signature}
use Rattle.core_terms.specs.CaseTrees.{Step}
use Rattle.core_terms.specs.declared.stop.Stop.{Stop}
use Rattle.core_terms.specs.declared.stop.Stop.TheVariants.{Deep}
use Rattle.unification.specs.Outcomes.{Outcome, steps_in}
use Rattle.unification.specs.ScopedStates.{IsReady, IsScopedProblem}
use Rattle.unification.specs.States.{Problem}
use Rattle.case_trees.specs.Standing.{Runs}
use Rattle.tree_translation.specs.Laws.{Widens}
use Rattle.tree_translation.specs.Naming.{Naming}
use Rattle.tree_translation.specs.RunTerms.{run_names, run_term}
use Rattle.tree_translation.specs.Standings.{Standing, problem_state}
use Rattle.split_terms.specs.CodeRunTerms.{run_made, run_names_made}

-- the term of a run that the code answers is the one that is meant
abbrev pub RunMadeIsTerm : Type 0
RunMadeIsTerm =
    (S : Signature) (number : Naming) (L : ℕ) (end : Term) (steps : List Step) (s : Standing) (t : Term) →
    run_made S number L end steps s ≡ Ok t → t ≡ run_term S number L end steps s

-- the names of a run that the code answers are those that are meant, after those that are there
abbrev pub RunNamesAreThese : Type 0
RunNamesAreThese =
    (S : Signature) (L : ℕ) (steps : List Step) (s : Standing) (names all : List (List ℕ)) →
    run_names_made S L steps s names ≡ Ok all → all ≡ names ++ run_names S L steps s

-- No other refusal than Deep is meant.
abbrev pub RunOnlyDeep : Type 0
RunOnlyDeep =
    (S : Signature) (number : Naming) (L : ℕ) (end : Term) (steps : List Step) (s : Standing) (e : Stop) →
    run_made S number L end steps s ≡ Err e → e ≡ Deep

-- a problem's run, and a standing in the problem's state, or over a whole context of which that state is what is seen
pub record IsRun (S : Signature) (p : Problem) (outcome : Outcome) (standing : Standing) : Type 0 where
  pub ready : IsReady S
  pub scoped : IsScopedProblem S p
  pub runs : Runs S p outcome
  pub widens : Widens standing (problem_state p)

-- The term of a run is made where it is no higher than a term may be.
abbrev pub RunAnswers : Type 0
RunAnswers =
    (S : Signature) (p : Problem) (outcome : Outcome) (standing : Standing) (number : Naming) (L : ℕ) (end : Term) → IsRun S p outcome standing →
    height (run_term S number L end (steps_in outcome) standing) ≤ 2000 →
    run_made S number L end (steps_in outcome) standing ≡ Ok (run_term S number L end (steps_in outcome) standing)

-- The names of a run are always made.
abbrev pub RunNamesAnswer : Type 0
RunNamesAnswer =
    (S : Signature) (p : Problem) (outcome : Outcome) (standing : Standing) (L : ℕ) (names : List (List ℕ)) → IsRun S p outcome standing →
    run_names_made S L (steps_in outcome) standing names ≡ Ok (names ++ run_names S L (steps_in outcome) standing)
