-- Levels of variables: the outermost variable of a context has level 0. They are looked for in lists, as positions are.
use Rattle.std.specs.List.{list_any}
use Rattle.std.specs.Prelude.{ℕ, ◌+◌, ◌-◌, ◌==◌, Bool, false, ◌||◌, cond, List, [], ◌∷◌}
use Rattle.theory.specs.Terms.{Term}
use Rattle.tele_eq.specs.Dependences.{has_variable}

abbrev pub is_among : ℕ → List ℕ → Bool
is_among j levels = list_any (λ i. i == j) levels

-- the place of a level in a list of levels
abbrev pub place_in : List ℕ → ℕ → ℕ
place_in [] j = 0
place_in (i ∷ levels) j = cond (i == j) 0 (place_in levels j + 1)

-- whether a variable with one of the levels is free in a term over n variables
abbrev pub has_level : (n : ℕ) (levels : List ℕ) → Term → Bool
has_level n [] t = false
has_level n (p ∷ levels) t = has_variable (n - (p + 1)) t || has_level n levels t
