-- Where a placed term is placed again: the levels that place it in one go.
use Rattle.std.specs.Prelude.{ℕ, ◌+◌, ◌-◌, ◌==◌, nat_lt, Bool, true, ◌&&◌, cond, List, [], ◌∷◌, length, map, get_or}

abbrev pub are_below : (end : ℕ) → List ℕ → Bool
are_below end [] = true
are_below end (level ∷ levels) = nat_lt level end && are_below end levels

-- a term that is placed by these levels of its own, at its own depth, is over the variables that have the outer levels, and over the
-- binders that it is under
abbrev pub composes : (levels : List ℕ) (under : ℕ) (own : List ℕ) (at : ℕ) → Bool
composes levels under own at = (length levels + under == at) && are_below at own

-- a level among the variables, or among the binders, which come after the depth
abbrev pub composed_level : (levels : List ℕ) (depth level : ℕ) → ℕ
composed_level levels depth level =
    cond (nat_lt level (length levels)) (get_or levels level 0) (depth + (level - length levels))

abbrev pub composed : (levels : List ℕ) (depth : ℕ) (own : List ℕ) → List ℕ
composed levels depth own = map (composed_level levels depth) own
