-- The order in which a function is recursive at a position.
use Rattle.std.specs.Prelude.{ℕ, cond, List, [], ◌∷◌, ◌++◌, flat_map}
use Rattle.std.specs.List.{range_with_len}
use Rattle.tele_eq.specs.Levels.{is_among}
use Rattle.tree_translation.specs.structural_rec.Positions.{Admission}

-- the positions that recursion at j goes over: the fixed ones, those of the indices in the family's order, and j
abbrev pub recursive_positions : (j : ℕ) → Admission → List ℕ
recursive_positions j a = a.fixed ++ (a.indices ++ j ∷ [])

-- a position alone, unless it is among the first
abbrev pub unless_among : (first : List ℕ) (i : ℕ) → List ℕ
unless_among first i = cond (is_among i first) [] (i ∷ [])

-- the recursion order over `count` positions: these, and then the others in their old order
abbrev pub recursion_order : (count j : ℕ) → Admission → List ℕ
recursion_order count j a =
    let first = recursive_positions j a in first ++ flat_map (unless_among first) (range_with_len 0 count)
