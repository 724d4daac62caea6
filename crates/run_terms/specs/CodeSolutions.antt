-- The parts of the terms of solutions and deletions that the code makes apart.
use Rattle.std.specs.Prelude.{ℕ, ◌+◌, ◌==◌, Bool, cond, List, [], ◌∷◌, ◌++◌, length, map, get_or, drop}
use Rattle.theory.specs.Terms.{Term, Var, Lam, App}
use Rattle.theory.specs.Telescopes.{products, functions, applied}
use Rattle.theory.specs.Signatures.{equation}
use Rattle.core_terms.specs.Levels.{variable}
use Rattle.tele_eq.specs.Items.{each_position}
use Rattle.tele_eq.specs.Levels.{is_among, place_in}
use Rattle.unification.specs.Rules.{level_of}
use Rattle.unification.specs.Solving.{new_context}
use Rattle.unification.specs.States.{Equation, types_as_they_stand}
use Rattle.tree_translation.specs.Standings.{Standing, at_levels, inside, first_equations, further_equations, here, placed, placed_telescope}
use Rattle.tree_translation.specs.Replays.{level_of_first}
use Rattle.tree_translation.specs.SolutionTerms.{remaining_goal, within, equation_with}
use Rattle.run_terms.specs.CodeReplays.{kept_by}

-- E -> G, with these equations
abbrev pub remaining : (goal : Term) → List Equation → (variables before : List ℕ) (depth : ℕ) → Term
remaining goal equations variables before depth =
    products (placed_telescope (variables ++ before) depth (types_as_they_stand equations))
    (placed variables (depth + length (types_as_they_stand equations)) goal)

-- the level of a variable in the motive of a solution
abbrev pub motive_level : (variables moved : List ℕ) (p depth j : ℕ) → ℕ
motive_level variables moved p depth j =
    cond (j == p) depth (cond (is_among j moved) (depth + 2 + place_in moved j) (get_or variables j 0))

-- the levels of the variables after the binders of x, at this depth, of its equation, and of the dependants
abbrev pub motive_levels : Standing → (x : ℕ) (moved : List ℕ) (depth : ℕ) → List ℕ
motive_levels s x moved depth =
    each_position (motive_level s.variables moved (level_of (length s.state.context) x) depth) 0 (length s.state.context)

-- (dependants as they are) -> (E2 as they are) -> G, after two binders from this depth on
abbrev pub motive_body : Standing → (levels moved : List ℕ) (depth : ℕ) → Term
motive_body s levels moved depth =
    products (new_context s.state.context (at_levels levels) (depth + 2) moved)
    (remaining_goal s 1 levels ((depth + 1) ∷ []) (depth + 2 + length moved))

-- the type of the equation in a motive
abbrev pub motive_equation : Standing → (on_right : Bool) (A u : Term) → Term
motive_equation s on_right A u =
    equation_with on_right (level_of_first s.state.equations) (within s A) (within s u) (Var 0)

-- the motive of a solution, where the dependants are given
abbrev pub motive_by : Standing → (x : ℕ) (moved : List ℕ) (on_right : Bool) (A u : Term) → Term
motive_by s x moved on_right A u =
    Lam (here s A) (Lam (motive_equation s on_right A u) (motive_body s (motive_levels s x moved (inside s)) moved (inside s)))

-- the levels of the variables that stay before the equations, where the dependants are given
abbrev pub fixed_levels : Standing → (x : ℕ) (moved : List ℕ) → List ℕ
fixed_levels s x moved = map (λ j. get_or s.variables j 0) (kept_by s x moved)

-- the method of a solution, where the dependants are given
abbrev pub method_by : Standing → (x : ℕ) (moved : List ℕ) → (next : Standing) (N : Term) → Term
method_by s x moved next N =
    functions (placed_telescope (fixed_levels s x moved) (inside s) (drop (length (fixed_levels s x moved)) next.state.context)) N

-- head x e1 dependants E2
abbrev pub applied_to_moved : (head : Term) → Standing → (x : ℕ) (moved : List ℕ) → Term
applied_to_moved head s x moved =
    applied head
    (here s (Var x)
    ∷ (first_equations s 1 ++ (map (λ j. variable (inside s) (get_or s.variables j 0)) moved ++ further_equations s 1)))

-- the term of a solution, where the dependants are given
abbrev pub solution_by : (head : Term) → Standing → (x : ℕ) (moved : List ℕ) (on_right : Bool) (A u : Term) → (next : Standing) (N : Term) → Term
solution_by head s x moved on_right A u next N =
    applied_to_moved (App (App (App (App head (here s A)) (here s u)) (motive_by s x moved on_right A u)) (method_by s x moved next N)) s x
    moved

-- \(e : Eq.i A u u). E2 -> G
abbrev pub deletion_motive : Standing → (A u : Term) → Term
deletion_motive s A u =
    Lam (equation (level_of_first s.state.equations) (here s A) (here s u) (here s u))
    (remaining_goal s 1 s.variables (inside s ∷ []) (inside s + 1))
