-- Where a state of unification is in a term that is made. The variables of its context are bound by binders of the term, which are
-- given by their levels, and its equations by the nearest ones.
use Rattle.std.specs.Prelude.{ℕ, ◌+◌, ◌-◌, List, [], ◌∷◌, ◌++◌, length, map, get_or}
use Rattle.theory.specs.Terms.{Term}
use Rattle.theory.specs.Telescopes.{Telescope, functions}
use Rattle.core_terms.specs.Levels.{variable, run}
use Rattle.tele_eq.specs.Items.{each_position}
use Rattle.tele_eq.specs.Environments.{Environment, put}
use Rattle.unification.specs.States.{State, Problem, starting, types_as_they_stand}
use Rattle.tele_eq.specs.TelescopicEquality.{equations}

-- variables that have these levels
abbrev pub at_levels : List ℕ → Environment
at_levels levels depth j = variable depth (get_or levels j 0)

-- a term over variables that have these levels, at a depth
abbrev pub placed : (levels : List ℕ) (depth : ℕ) → Term → Term
placed levels depth t = put (at_levels levels) (length levels) depth t

abbrev pub all_placed : (levels : List ℕ) (depth : ℕ) → List Term → List Term
all_placed levels depth terms = map (placed levels depth) terms

-- a telescope over them, which is bound at that depth
abbrev pub placed_telescope : (levels : List ℕ) (depth : ℕ) → Telescope → Telescope
placed_telescope levels depth [] = []
placed_telescope levels depth (a ∷ tele) =
    placed levels depth a ∷ placed_telescope (levels ++ depth ∷ []) (depth + 1) tele

-- the levels of so many binders from one on
abbrev pub levels_from : (start count : ℕ) → List ℕ
levels_from start count = each_position (λ j. j) start count

-- A state after `depth` binders, among which those of its variables have the levels `variables`; a goal over its context; and the
-- levels that its hidden variables have in the context: those of below values, of which steps know nothing.
pub record Standing : Type 0 where
  pub state : State
  pub goal : Term
  pub hidden : List ℕ
  pub variables : List ℕ
  pub depth : ℕ

abbrev pub equation_count : Standing → ℕ
equation_count s = length s.state.equations

-- the depth after its equations, which are bound one after the other
abbrev pub inside : Standing → ℕ
inside s = s.depth + equation_count s

-- the first g of its equations, and those after them, at their depth
abbrev pub first_equations : Standing → (g : ℕ) → List Term
first_equations s g = run (inside s) s.depth g

abbrev pub further_equations : Standing → (g : ℕ) → List Term
further_equations s g = run (inside s) (s.depth + g) (equation_count s - g)

-- a term of its context, and terms, after its equations
abbrev pub here : Standing → Term → Term
here s t = placed s.variables (inside s) t

abbrev pub all_here : Standing → List Term → List Term
all_here s terms = all_placed s.variables (inside s) terms

-- the term of a state: \E. inner, from its equations to its goal
abbrev pub state_term : Standing → (inner : Term) → Term
state_term s inner = functions (placed_telescope s.variables s.depth (types_as_they_stand s.state.equations)) inner

-- the state from which a problem is solved, in a term over the problem's context
abbrev pub problem_state : Problem → State
problem_state p = starting p (equations p.telescope p.left p.right)
