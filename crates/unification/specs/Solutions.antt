-- Solution: one side of the first equation is a variable, which the other side solves.
use Rattle.std.specs.Prelude.{ℕ, ◌+◌, ◌-◌, Bool, true, cond, Option, Some, None, Result, Ok, length}
use Rattle.theory.specs.Terms.{Term, Var}
use Rattle.theory.specs.Signatures.{Signature}
use Rattle.core_terms.specs.Answers.{Spent, and_next, and_then}
use Rattle.core_terms.specs.CaseTrees.{Step}
use Rattle.core_terms.specs.declared.case_tree.Rule.TheVariants.{SolveRight, SolveLeft}
use Rattle.core_terms.specs.declared.stop.Stop.{Stop}
use Rattle.kernel_reduce.specs.Reduction.{answered, nesting, normal_of}
use Rattle.kernel_reduce.specs.Tidying.{tidy_of}
use Rattle.unification.specs.States.{Equation, State}
use Rattle.unification.specs.Occurrences.{lacks}
use Rattle.unification.specs.Solving.{solved_state}
use Rattle.unification.specs.Heights.{bounded_state}
use Rattle.unification.specs.Turns.{Turn, Goes, Trial, does_not_apply, on_tidied, or_else, single, type_in}

abbrev pub variable_in : Term → Option ℕ
variable_in (Var x) = Some x
variable_in t = None

-- variable x and its dependants do not occur in a term
abbrev pub is_free_of : State → (x : ℕ) → Term → Bool
is_free_of s x t = lacks s.context (length s.context - (x + 1)) t

abbrev pub if_free : State → (x : ℕ) → Term → Option Term
if_free s x t = cond (is_free_of s x t) (Some t) None

-- the term itself where variable x is not in it, and else its normal form where x is not in that one
abbrev pub solution_from : Signature → State → (x : ℕ) → Term → ℕ → Spent (Option Term)
solution_from S s x u left =
    cond (is_free_of s x u) (answered (Ok (Some u)) left)
    (and_next (normal_of S true nesting u left) (λ v rest. answered (Ok (if_free s x v)) rest))

-- the term that solves variable x in an equation in A, where it is solvable by u
abbrev pub solves : Signature → State → (x : ℕ) (A u : Term) → ℕ → Spent (Option Term)
solves S s x A u left = cond (is_free_of s x A) (solution_from S s x u left) (answered (Ok None) left)

-- the solving term with the state after the solution, where there is one, or Deep
abbrev pub state_solved : State → Equation → (x : ℕ) (A : Term) → Option Term → Result (Option (Term × State)) Stop
state_solved s e x A None = Ok None
state_solved s e x A (Some u) =
    and_then (bounded_state (solved_state s e.place.level (length s.context - (x + 1)) A u)) (λ t. Ok (Some (u, t)))

-- variable x is solved by the other side
abbrev pub side_solved : Signature → State → Equation → (x : ℕ) (A other : Term) → ℕ → Spent (Option (Term × State))
side_solved S s e x A other left =
    and_next (solves S s x A other left) (λ found rest. answered (state_solved s e x A found) rest)

-- a step by a solution, where there is one
abbrev pub turn_by : (Term → Step) → Option (Term × State) → Option Turn
turn_by step None = None
turn_by step (Some found) = Some (Goes (step found.0) found.1)

-- the side that may be a variable is solved by the other one
abbrev pub solve_side : Signature → State → Equation → (A other : Term) → (ℕ → Term → Step) → Option ℕ → Trial
solve_side S s e A other step None left = does_not_apply left
solve_side S s e A other step (Some x) left =
    and_next (side_solved S s e x A other left) (λ found rest. answered (Ok (turn_by (step x) found)) rest)

abbrev pub right_step : (A v : Term) (x : ℕ) (u : Term) → Step
right_step A v x u = single (SolveRight x) A u v

abbrev pub left_step : (A u : Term) (x : ℕ) (v : Term) → Step
left_step A u x v = single (SolveLeft x) A u v

-- the right side first, and else the left one, with the tidied type and sides
abbrev pub solve_sides : Signature → State → Equation → (A u v : Term) → Trial
solve_sides S s e A u v =
    or_else (solve_side S s e A u (right_step A v) (variable_in v)) (solve_side S s e A v (left_step A u) (variable_in u))

-- the type is tidied, once, where one of the sides is a variable
abbrev pub with_variable : Signature → State → Equation → (u v : Term) → (from_left from_right : Option ℕ) → Trial
with_variable S s e u v None None left = does_not_apply left
with_variable S s e u v from_left from_right left =
    and_next (tidy_of S left (type_in e.type)) (λ A rest. solve_sides S s e A u v rest)

-- The rule.
abbrev pub solution_trial : Signature → State → Equation → Trial
solution_trial S s e =
    on_tidied S e.left e.right (λ u v. with_variable S s e u v (variable_in u) (variable_in v))
