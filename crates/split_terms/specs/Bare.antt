-- Standings without the terms of the first context's variables: the code does not make these, since no term of a run mentions them.
use Rattle.std.specs.Prelude.{ℕ, List, [], length, Result, Ok}
use Rattle.theory.specs.Families.{Constructor}
use Rattle.core_terms.specs.Answers.{and_then}
use Rattle.core_terms.specs.declared.stop.Stop.{Stop}
use Rattle.unification.specs.States.{State, Problem, starting}
use Rattle.case_trees.specs.Problems.{Member, problem_of}
use Rattle.tree_translation.specs.Splits.{Node}
use Rattle.tree_translation.specs.Standings.{Standing}
use Rattle.run_terms.specs.Made.{equations_made}
use Rattle.split_terms.specs.CodeSplits.{standing_with}

abbrev pub bare_state : State → State
bare_state s = record s { solution = [] }

abbrev pub bare : Standing → Standing
bare s = record s { state = bare_state s.state }

-- an answer with a bare standing
abbrev pub bared : Result Standing Stop → Result Standing Stop
bared made = and_then made (λ s. Ok (bare s))

-- the state from which a problem is solved
abbrev pub bare_state_made : Problem → Result State Stop
bare_state_made p = and_then (equations_made p.telescope p.left p.right) (λ types. Ok (bare_state (starting p types)))

-- the standing from which the run of a constructor starts
abbrev pub bare_standing : Node → Member → (x number : ℕ) → Constructor → Result Standing Stop
bare_standing node m x number c =
    and_then (bare_state_made (problem_of node.context x m number c)) (λ state. Ok (standing_with node (length c.arguments) state))
