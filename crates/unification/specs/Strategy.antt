-- The strategy: which rule is tried when.
use Rattle.std.specs.Prelude.{List, [], ◌∷◌, length}
use Rattle.theory.specs.Signatures.{Signature}
use Rattle.unification.specs.States.{Equation, State}
use Rattle.unification.specs.Turns.{Trial, Done, applies, or_else}
use Rattle.unification.specs.Groups.{group_trials}
use Rattle.unification.specs.Solutions.{solution_trial}
use Rattle.unification.specs.Constructors.{constructor_trial}
use Rattle.unification.specs.Cycles.{cycle_trial}
use Rattle.unification.specs.Deletions.{deletion_trial}
use Rattle.unification.specs.Sticking.{stuck_trial}

-- the rules for the first equation
abbrev pub first_trials : Signature → State → Equation → Trial
first_trials S s e =
    or_else (solution_trial S s e)
    (or_else (constructor_trial S s e)
    (or_else (cycle_trial S e)
    (or_else (deletion_trial S s e)
    (stuck_trial S e))))

-- `rest` come after the first equation: as many groups are tried
abbrev pub trials : Signature → State → List Equation → Trial
trials S s [] = applies Done
trials S s (e ∷ rest) = or_else (group_trials S s (length rest)) (first_trials S s e)

-- the turn of a state: with no equation left it is solved
abbrev pub turn_of : Signature → State → Trial
turn_of S s = trials S s s.equations
