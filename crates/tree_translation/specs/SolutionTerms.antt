-- The terms of a solution, by elimination of the first equation, and of a deletion, by K.
use Rattle.std.specs.Prelude.{ℕ, ◌+◌, ◌==◌, Bool, true, false, cond, List, [], ◌∷◌, ◌++◌, length, drop, get_or, map}
use Rattle.theory.specs.Terms.{Term, Var, Lam, Const, Elim, AxiomK}
use Rattle.theory.specs.Telescopes.{products, functions, applied}
use Rattle.theory.specs.Signatures.{equality, equation}
use Rattle.core_terms.specs.Levels.{variable}
use Rattle.tele_eq.specs.Items.{each_position}
use Rattle.unification.specs.Rules.{level_of}
use Rattle.unification.specs.States.{types_as_they_stand}
use Rattle.tele_eq.specs.Levels.{is_among, place_in}
use Rattle.unification.specs.Occurrences.{dependants}
use Rattle.unification.specs.Solving.{new_context}
use Rattle.tree_translation.specs.Naming.{Naming, left_name}
use Rattle.tree_translation.specs.Standings.{Standing, inside, first_equations, further_equations, here, at_levels, placed, placed_telescope}
use Rattle.tree_translation.specs.Replays.{level_of_first, kept, solved_standing}

-- E2 -> G, as they are, where the variables of the context and the first g equations have these levels
abbrev pub remaining_goal : Standing → (g : ℕ) (variables equations : List ℕ) (depth : ℕ) → Term
remaining_goal s g variables equations depth =
    let types = types_as_they_stand (drop g s.state.equations) in
    products (placed_telescope (variables ++ equations) depth types) (placed variables (depth + length types) s.goal)

-- the levels of the variables after the binders of x, at this depth, of e, and of the dependants
abbrev pub motive_levels : Standing → (p depth : ℕ) → List ℕ
motive_levels s p depth =
    let moved = dependants s.state.context p in
    each_position
    (λ j. cond (j == p) depth (cond (is_among j moved) (depth + 2 + place_in moved j) (get_or s.variables j 0)))
    0 (length s.state.context)

-- a term of the context one binder further in
abbrev pub within : Standing → Term → Term
within s t = placed s.variables (inside s + 1) t

-- Eq.i A u z where the variable is on the right, and Eq.i A z u where it is on the left
abbrev pub equation_with : (on_right : Bool) (i : ℕ) (A u z : Term) → Term
equation_with on_right i A u z = cond on_right (equation i A u z) (equation i A z u)

-- \(x : A) (e : its equation with u). (dependants as they are) -> (E2 as they are) -> G
abbrev pub solution_motive : Standing → (p : ℕ) (on_right : Bool) (A u : Term) → Term
solution_motive s p on_right A u =
    let i = level_of_first s.state.equations in
    let depth = inside s in
    let moved = dependants s.state.context p in
    let levels = motive_levels s p depth in
    let behind = depth + 2 + length moved in
    Lam (here s A)
    (Lam (equation_with on_right i (within s A) (within s u) (Var 0))
    (products (new_context s.state.context (at_levels levels) (depth + 2) moved)
    (remaining_goal s 1 levels ((depth + 1) ∷ []) behind)))

-- \dependants. N, with the dependants as they are after the solution
abbrev pub solution_method : Standing → (p : ℕ) → (next : Standing) (N : Term) → Term
solution_method s p next N =
    let fixed = map (λ j. get_or s.variables j 0) (kept s.state p) in
    functions (placed_telescope fixed (inside s) (drop (length fixed) next.state.context)) N

-- head A u motive method x e1 dependants E2
abbrev pub solution_term : (head : Term) → Standing → (x : ℕ) (on_right : Bool) (A u : Term) → (next : Standing) (N : Term) → Term
solution_term head s x on_right A u next N =
    let p = level_of (length s.state.context) x in
    let moved = dependants s.state.context p in
    applied head
    (here s A ∷ here s u ∷ solution_motive s p on_right A u ∷ solution_method s p next N ∷ here s (Var x)
    ∷ (first_equations s 1 ++ (map (λ j. variable (inside s) (get_or s.variables j 0)) moved ++ further_equations s 1)))

-- SolveRight: Eq.i!elim.L A u (\x e. (dependants) -> E2 -> G) (\dependants. N) x e1 dependants E2, with e : Eq.i A u x
abbrev pub solve_right_term : (L : ℕ) → Standing → (x : ℕ) (A u : Term) → (N : Term) → Term
solve_right_term L s x A u N =
    solution_term (Elim (equality (level_of_first s.state.equations)) L) s x true A u (solved_standing s x A u) N

-- SolveLeft: the same by Eq.i!left.L A v, with e : Eq.i A x v
abbrev pub solve_left_term : Naming → (L : ℕ) → Standing → (x : ℕ) (A v : Term) → (N : Term) → Term
solve_left_term number L s x A v N =
    solution_term (Const (number (left_name (level_of_first s.state.equations) L))) s x false A v (solved_standing s x A v) N

-- Delete: Eq.i!k.L A u (\e. E2 -> G) N e1 E2
abbrev pub delete_term : (L : ℕ) → Standing → (A u : Term) → (N : Term) → Term
delete_term L s A u N =
    let i = level_of_first s.state.equations in
    let depth = inside s in
    let motive = Lam (equation i (here s A) (here s u) (here s u)) (remaining_goal s 1 s.variables (depth ∷ []) (depth + 1)) in
    applied (AxiomK i L) (here s A ∷ here s u ∷ motive ∷ N ∷ (first_equations s 1 ++ further_equations s 1))
