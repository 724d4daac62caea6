-- In which order the variables of a context and the new variable are. The new one is named by level n, after the n levels of the
-- context, and the types are terms over all of these n + 1 variables.
use Rattle.std.specs.Prelude.{ℕ, ◌+◌, cond, List, [], ◌∷◌, ◌++◌}
use Rattle.theory.specs.Terms.{Term}
use Rattle.theory.specs.Telescopes.{Telescope}
use Rattle.tele_eq.specs.Environments.{put}
use Rattle.tele_eq.specs.Items.{each_position, term_at}
use Rattle.unification.specs.Occurrences as levels
use Rattle.tele_eq.specs.Levels.{has_level}
use Rattle.unification.specs.Solving.{reordered}

-- Those levels from j on whose types have a variable with a level that is found. Each of them is then found itself.
abbrev pub behind_from : (n j : ℕ) (found : List ℕ) (types : List Term) → List ℕ
behind_from n j found [] = []
behind_from n j found (a ∷ types) =
    cond (has_level (n + 1) found a) (j ∷ behind_from n (j + 1) (j ∷ found) types) (behind_from n (j + 1) found types)

-- the variables after the new one: those whose types have it, and those that depend on them
abbrev pub behind : (n : ℕ) (types : List Term) → List ℕ
behind n types = behind_from n 0 (n ∷ []) types

-- the variables before it: all others
abbrev pub in_front : (n : ℕ) (types : List Term) → List ℕ
in_front n types = levels.without (behind n types) (each_position (λ j. j) 0 n)

-- all of them in their new order
abbrev pub new_order : (n : ℕ) (types : List Term) → List ℕ
new_order n types = in_front n types ++ n ∷ behind n types

-- the types of the variables with these levels, the first of which is at a depth, where all variables occur in an order
abbrev pub arranged : (order : List ℕ) (n : ℕ) (types : List Term) (depth : ℕ) (levels : List ℕ) → Telescope
arranged order n types depth [] = []
arranged order n types depth (j ∷ levels) =
    put (reordered order) (n + 1) depth (term_at types j) ∷ arranged order n types (depth + 1) levels
