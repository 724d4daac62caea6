-- Replaying a run: each step gives the next state, and its place in the term that is made. No term is reduced for it.
use Rattle.std.specs.Prelude.{ℕ, ◌+◌, Option, Some, None, List, [], ◌∷◌, ◌++◌, length, map, get_or}
use Rattle.theory.specs.Terms.{Term}
use Rattle.theory.specs.Signatures.{Signature}
use Rattle.core_terms.specs.CaseTrees.{Step}
use Rattle.core_terms.specs.declared.case_tree.Rule.{Rule}
use Rattle.core_terms.specs.declared.case_tree.Rule.TheVariants.{SolveRight, SolveLeft, Inject, Delete}
use Rattle.tele_eq.specs.Environments.{put}
use Rattle.unification.specs.Rules.{level_of}
use Rattle.unification.specs.States.{State, Equation}
use Rattle.tele_eq.specs.Levels.{place_in}
use Rattle.unification.specs.Occurrences.{dependants, order_without, without}
use Rattle.unification.specs.Solving.{solved, solved_state, deleted_state}
use Rattle.unification.specs.Injecting.{injected_state}
use Rattle.tree_translation.specs.Standings.{Standing, inside, levels_from}
use Rattle.tree_translation.specs.Hidden.{widened_step}
use Rattle.tree_translation.specs.Comparisons.{Comparison, compared}

-- the level of the first equation
abbrev pub level_of_first : List Equation → ℕ
level_of_first [] = 0
level_of_first (e ∷ equations) = e.place.level

-- the levels of the variables that do not depend on the one with level p, in a context of n variables
abbrev pub kept : State → (p : ℕ) → List ℕ
kept s p = without (p ∷ dependants s.context p) (levels_from 0 (length s.context))

-- Variable x is solved by u. Its dependants are bound anew after the equations.
abbrev pub solved_standing : Standing → (x : ℕ) (A u : Term) → Standing
solved_standing s x A u =
    let n = length s.state.context in
    let p = level_of n x in
    let order = order_without s.state.context p in
    let moved = length (dependants s.state.context p) in
    record {
      state = solved_state s.state (level_of_first s.state.equations) p A u;
      goal = put (solved n order p u) n (length order) s.goal;
      hidden = map (place_in order) s.hidden;
      variables = map (λ j. get_or s.variables j 0) (kept s.state p) ++ levels_from (inside s) moved;
      depth = inside s + moved;
    }

-- the context stays, and the equations that are left are bound after the others
abbrev pub with_state : Standing → State → Standing
with_state s t = record s { state = t; depth = inside s }

abbrev pub injected_standing : Standing → (g : ℕ) → Comparison → Standing
injected_standing s g c =
    with_state s
    (injected_state s.state g c.n c.left.number c.family c.left.constructor c.parameters c.left.arguments c.right.arguments)

abbrev pub deleted_standing : Standing → (A u : Term) → Standing
deleted_standing s A u = with_state s (deleted_state s.state (level_of_first s.state.equations) A u)

abbrev pub unless_compared : Standing → (g : ℕ) → Option Comparison → Standing
unless_compared s g None = s
unless_compared s g (Some c) = injected_standing s g c

-- the standing after a step over the whole context; a last step leads to no other state
abbrev pub behind_rule : Signature → Standing → Step → Rule → Standing
behind_rule S s step (SolveRight x) = solved_standing s x step.ty step.left
behind_rule S s step (SolveLeft x) = solved_standing s x step.ty step.right
behind_rule S s step (Inject n number) = unless_compared s step.group (compared S s.state step)
behind_rule S s step Delete = deleted_standing s step.ty step.left
behind_rule S s step rule = s

-- a step of a run, as it is read in a standing
abbrev pub step_in : Standing → Step → Step
step_in s step = widened_step (length s.state.context) s.hidden step

-- the standing after a step of a run
abbrev pub behind_step : Signature → Standing → Step → Standing
behind_step S s step = behind_rule S s (step_in s step) (step_in s step).rule

-- the standing after a run
abbrev pub behind_run : Signature → List Step → Standing → Standing
behind_run S [] s = s
behind_run S (step ∷ steps) s = behind_run S steps (behind_step S s step)
