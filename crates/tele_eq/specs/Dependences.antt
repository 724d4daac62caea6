-- Which earlier variables of a telescope a type depends on.
use Rattle.std.specs.Prelude.{ℕ, zero, suc, ◌+◌, ◌-◌, ◌==◌, Bool, false, ◌||◌, cond, List, [], ◌∷◌}
use Rattle.theory.specs.Terms.{Term, Var, Pi, Lam, App, Let}
use Rattle.tele_eq.specs.Items.{Item, type_at}

-- whether a variable is free in a term
abbrev pub has_variable : (n : ℕ) → Term → Bool
has_variable n (Var v) = v == n
has_variable n (Pi a b) = has_variable n a || has_variable (n + 1) b
has_variable n (Lam a b) = has_variable n a || has_variable (n + 1) b
has_variable n (App f a) = has_variable n f || has_variable n a
has_variable n (Let a t b) = has_variable n a || has_variable n t || has_variable (n + 1) b
has_variable n _ = false

-- whether the type at one of the positions, all after `at`, mentions the variable at `at`
abbrev pub is_mentioned : (tele : List Item) (at : ℕ) (positions : List ℕ) → Bool
is_mentioned tele at [] = false
is_mentioned tele at (position ∷ positions) =
    has_variable (position - (at + 1)) (type_at tele position) || is_mentioned tele at positions

-- the positions below `at` that the type at position j mentions, or the type at a position that is among them or found
-- already; the nearest are found first, and so are those that make others be among them
abbrev pub closed : (tele : List Item) (j at : ℕ) (found : List ℕ) → List ℕ
closed tele j zero found = found
closed tele j (suc at) found =
    closed tele j at (cond (is_mentioned tele at (j ∷ found)) (at ∷ found) found)

-- the earlier positions that the type at position j depends on: those that it mentions, closed under those that their types
-- mention
abbrev pub dependences : List Item → (j : ℕ) → List ℕ
dependences tele j = closed tele j j []
