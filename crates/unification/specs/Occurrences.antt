-- Where variables of a context occur. A variable is named by its level: the outermost one has level 0.
use Rattle.std.specs.Prelude.{ℕ, ◌+◌, Bool, not, cond, List, [], ◌∷◌, ◌++◌, length, drop}
use Rattle.theory.specs.Terms.{Term}
use Rattle.theory.specs.Telescopes.{Telescope}
use Rattle.tele_eq.specs.Items.{each_position}
use Rattle.tele_eq.specs.Levels.{has_level, is_among}

-- Those levels from `at` on whose types have a variable with a level that is found. Each of them is then found itself.
abbrev pub dependants_from : (at : ℕ) (found : List ℕ) → Telescope → List ℕ
dependants_from at found [] = []
dependants_from at found (a ∷ types) =
    cond (has_level at found a) (at ∷ dependants_from (at + 1) (at ∷ found) types) (dependants_from (at + 1) found types)

-- the dependants of the variable with level p: the variables whose types mention it, or another dependant of it
abbrev pub dependants : Telescope → (p : ℕ) → List ℕ
dependants context p = dependants_from (p + 1) (p ∷ []) (drop (p + 1) context)

-- neither the variable with level p nor a dependant of it occurs in a term of the context
abbrev pub lacks : Telescope → (p : ℕ) → Term → Bool
lacks context p t = not (has_level (length context) (p ∷ dependants context p) t)

-- those of the levels that are not left out
abbrev pub without : (out levels : List ℕ) → List ℕ
without out [] = []
without out (j ∷ levels) = cond (is_among j out) (without out levels) (j ∷ without out levels)

-- The levels of all other variables, in the order in which they are once the variable with level p is solved: its dependants
-- come last.
abbrev pub order_without : Telescope → (p : ℕ) → List ℕ
order_without context p =
    let moved = dependants context p in
    without (p ∷ moved) (each_position (λ j. j) 0 (length context)) ++ moved
