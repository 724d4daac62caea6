-- The parts of a standing after a solution or a deletion that the code makes apart.
use Rattle.std.specs.Prelude.{ℕ, ◌+◌, List, [], ◌∷◌, ◌++◌, length, map, get_or, drop, Option}
use Rattle.theory.specs.Terms.{Term}
use Rattle.theory.specs.Signatures.{reflexivity}
use Rattle.tele_eq.specs.Environments.{put}
use Rattle.tele_eq.specs.Levels.{place_in}
use Rattle.unification.specs.Moving.{over_first, behind, moved}
use Rattle.unification.specs.Occurrences.{dependants, without}
use Rattle.unification.specs.Rules.{level_of}
use Rattle.unification.specs.Solving.{reordered, solved, new_context}
use Rattle.unification.specs.States.{State, Equation}
use Rattle.problems.specs.CodeMoves.{solved_environment, state_with, variables_of}
use Rattle.problems.specs.declared.moving.Solution.{Solution}
use Rattle.run_terms.specs.CodePlaces.{side_of}
use Rattle.run_terms.specs.declared.moving.Sides.{Sides}
use Rattle.tree_translation.specs.Standings.{Standing, inside, levels_from}
use Rattle.tree_translation.specs.Replays.{level_of_first}

-- the equations after the first one, where terms over `depth` variables stand for its place and for itself
abbrev pub moved_after_first : State → Option Solution → Sides → (size depth : ℕ) (u proof : Term) → List Equation
moved_after_first s solution sides size depth u proof =
    moved (behind size 1 depth (variables_of solution) (over_first depth (u ∷ [])))
    (behind size 1 depth (variables_of solution) (over_first depth (proof ∷ []))) (side_of sides) (size + 1) depth (drop 1 s.equations)

-- the levels of the variables after a solution: of those that stay before the equations, and of those that are bound anew
abbrev pub solved_variables : Standing → (kept : List ℕ) (count : ℕ) → List ℕ
solved_variables s kept count = map (λ j. get_or s.variables j 0) kept ++ levels_from (inside s) count

-- the standing after a solution, where such variables stay before the equations, and so many are bound anew
abbrev pub solved_with : Standing → Solution → Term → (kept : List ℕ) (count : ℕ) → Standing
solved_with s solution A kept count = record {
  state = state_with s.state (level_of_first s.state.equations) solution A;
  goal = put (solved_environment solution) solution.size (length solution.order.now) s.goal;
  hidden = map (place_in solution.order.now) s.hidden;
  variables = solved_variables s kept count;
  depth = inside s + count;
}

-- the levels of the dependants of variable x
abbrev pub moved_by : Standing → (x : ℕ) → List ℕ
moved_by s x = dependants s.state.context (level_of (length s.state.context) x)

-- those of the other variables, where the dependants are given
abbrev pub kept_by : Standing → (x : ℕ) (moved : List ℕ) → List ℕ
kept_by s x moved =
    without (level_of (length s.state.context) x ∷ moved) (levels_from 0 (length s.state.context))

-- the equations after the first one, once it is solved, where the variables occur in such an order
abbrev pub equations_by : State → (x i : ℕ) (A u : Term) (order : List ℕ) → List Equation
equations_by s x i A u order =
    let n = length s.context in
    let m = length order in
    let s' = solved n order (level_of n x) u in
    let A' = put (reordered order) n m A in
    let u' = put (reordered order) n m u in
    moved (behind n 1 m s' (over_first m (u' ∷ []))) (behind n 1 m s' (over_first m (reflexivity i A' u' ∷ []))) (put s' n m)
    (n + 1) m (drop 1 s.equations)

-- the state after variable x is solved, where the others are in such an order
abbrev pub state_by : State → (x i : ℕ) (A u : Term) (order : List ℕ) → State
state_by s x i A u order =
    let n = length s.context in
    let s' = solved n order (level_of n x) u in
    record {
      context = new_context s.context s' 0 order;
      equations = equations_by s x i A u order;
      solution = map (put s' n (length order)) s.solution;
    }

-- the standing after variable x is solved, where its dependants are given, and the other variables
abbrev pub solved_by : Standing → (x : ℕ) (A u : Term) (kept moved : List ℕ) → Standing
solved_by s x A u kept moved =
    let n = length s.state.context in
    let order = kept ++ moved in
    record {
      state = state_by s.state x (level_of_first s.state.equations) A u order;
      goal = put (solved n order (level_of n x) u) n (length order) s.goal;
      hidden = map (place_in order) s.hidden;
      variables = solved_variables s kept (length moved);
      depth = inside s + length moved;
    }
