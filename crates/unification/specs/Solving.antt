-- The state after a solution and after a deletion: the first equation, `Eq.i A u v`, goes out.
use Rattle.std.specs.Prelude.{ℕ, ◌+◌, ◌==◌, cond, List, [], ◌∷◌, length, map, drop}
use Rattle.theory.specs.Terms.{Term}
use Rattle.theory.specs.Telescopes.{Telescope}
use Rattle.theory.specs.Signatures.{reflexivity}
use Rattle.core_terms.specs.Levels.{variable}
use Rattle.tele_eq.specs.Items.{term_at}
use Rattle.tele_eq.specs.Environments.{Environment, put}
use Rattle.unification.specs.States.{State}
use Rattle.tele_eq.specs.Levels.{place_in}
use Rattle.unification.specs.Occurrences.{order_without}
use Rattle.unification.specs.Moving.{over_first, behind, moved}

-- the variables of a context in a new order
abbrev pub reordered : (order : List ℕ) → Environment
reordered order depth j = variable depth (place_in order j)

-- the variables in a new order, with u, a term over the n variables, for the one with level p
abbrev pub solved : (n : ℕ) (order : List ℕ) (p : ℕ) (u : Term) → Environment
solved n order p u depth j = cond (j == p) (put (reordered order) n depth u) (reordered order depth j)

-- the types of the variables with these levels, the first of which is at a depth
abbrev pub new_context : Telescope → Environment → (depth : ℕ) (order : List ℕ) → Telescope
new_context context s depth [] = []
new_context context s depth (j ∷ order) = put s j depth (term_at context j) ∷ new_context context s (depth + 1) order

-- The variable with level p is solved by u. The other variables follow in their new order, with u for the variable in the types of
-- its dependants. In the other equations u stands for the variable and for the place of the first equation, and refl.i A u for
-- that equation.
abbrev pub solved_state : State → (i p : ℕ) (A u : Term) → State
solved_state s i p A u =
    let n = length s.context in
    let order = order_without s.context p in
    let m = length order in
    let s' = solved n order p u in
    let A' = put (reordered order) n m A in
    let u' = put (reordered order) n m u in
    let items = behind n 1 m s' (over_first m (u' ∷ [])) in
    let types = behind n 1 m s' (over_first m (reflexivity i A' u' ∷ [])) in
    record {
      context = new_context s.context s' 0 order;
      equations = moved items types (put s' n m) (n + 1) m (drop 1 s.equations);
      solution = map (put s' n m) s.solution;
    }

-- The equation is deleted: its place gets u, and itself refl.i A u.
abbrev pub deleted_state : State → (i : ℕ) (A u : Term) → State
deleted_state s i A u =
    let n = length s.context in
    let items = behind n 1 n variable (over_first n (u ∷ [])) in
    let types = behind n 1 n variable (over_first n (reflexivity i A u ∷ [])) in
    record s { equations = moved items types (λ t. t) (n + 1) n (drop 1 s.equations) }
