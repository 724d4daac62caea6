-- Equations and standings some parts of which are answers.
use Rattle.std.specs.Prelude.{ℕ, List, Result, Ok}
use Rattle.theory.specs.Terms.{Term}
use Rattle.core_terms.specs.Answers.{and_then}
use Rattle.core_terms.specs.declared.stop.Stop.{Stop}
use Rattle.tele_eq.specs.Items.{Item}
use Rattle.unification.specs.States.{Equation, State}
use Rattle.problems.specs.CodeMoves.{equation_with}
use Rattle.tree_translation.specs.Standings.{Standing}

-- the equation at a place, or the first refusal among its sides
abbrev pub equation_between : Item → (type : Term) (left right : Result Term Stop) → Result Equation Stop
equation_between place type left right = and_then left (λ u. and_then right (λ v. Ok (equation_with place type u v)))

abbrev pub standing_with : State → (goal : Term) (hidden variables : List ℕ) (depth : ℕ) → Standing
standing_with state goal hidden variables depth =
    record { state = state; goal = goal; hidden = hidden; variables = variables; depth = depth }

-- the standing of a state, or the first refusal among its levels
abbrev pub standing_at : State → (goal : Term) (hidden variables : Result (List ℕ) Stop) (depth : ℕ) → Result Standing Stop
standing_at state goal hidden variables depth =
    and_then hidden (λ hidden. and_then variables (λ variables. Ok (standing_with state goal hidden variables depth)))
