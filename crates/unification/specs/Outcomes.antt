-- The outcome of a run.
use Rattle.std.specs.Prelude.{List, [], ◌∷◌}
use Rattle.theory.specs.Terms.{Term}
use Rattle.theory.specs.Telescopes.{Telescope}
use Rattle.core_terms.specs.CaseTrees.{Step}
use Rattle.unification.specs.declared.why.Why.{Why}

-- `Solved steps context solution`: no equation is left; the solution has a term of the context for each variable of the first one.
-- `Absurd steps context left right`: the last of the steps shows that the equation of these sides has no solution.
-- `Stuck steps context left right why`: no rule goes on with the equation of these sides.
pub data Outcome : Type 0 where
  Solved : List Step → Telescope → List Term → Outcome
  Absurd : List Step → Telescope → Term → Term → Outcome
  Stuck : List Step → Telescope → Term → Term → Why → Outcome

abbrev pub steps_in : Outcome → List Step
steps_in (Solved steps context solution) = steps
steps_in (Absurd steps context left right) = steps
steps_in (Stuck steps context left right why) = steps

-- an outcome with one step more before the others
abbrev pub before : Step → Outcome → Outcome
before step (Solved steps context solution) = Solved (step ∷ steps) context solution
before step (Absurd steps context left right) = Absurd (step ∷ steps) context left right
before step (Stuck steps context left right why) = Stuck (step ∷ steps) context left right why

-- an outcome with several steps before its own
abbrev pub behind_steps : List Step → Outcome → Outcome
behind_steps [] outcome = outcome
behind_steps (step ∷ steps) outcome = before step (behind_steps steps outcome)
