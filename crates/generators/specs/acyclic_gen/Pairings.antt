-- The pairs that the entries are made of, and their sides.
use Rattle.std.specs.Prelude.{ℕ, ◌+◌, ◌==◌, cond, List, [], ◌∷◌}
use Rattle.theory.specs.Terms.{Term, Lam, App, Elim}
use Rattle.theory.specs.Prelude.{pair_type}
use Rattle.case_below_gen.specs.Components.{pair_of}
use Rattle.case_below_gen.specs.Projections.{side_variable}
use Rattle.case_below_gen.specs.declared.sides.Side.{Side}
use Rattle.case_below_gen.specs.declared.sides.Side.TheVariants.{First, Second}
use Rattle.generators.specs.acyclic_gen.Statements.{at_level, unequal, no_part, not_within, none_within}
use Rattle.generators.specs.declared.acyclic_gen.carrier.Carrier.{Carrier}
use Rattle.generators.specs.declared.acyclic_gen.point.Point.{Point}
use Rattle.generators.specs.declared.acyclic_gen.direct_arguments.Direct.{Direct}

-- `Within x y`: x is not y, and no part of y. `Several x d directs`: x is not within the direct argument d, nor within one of
-- those after it.
pub data Pairing : Type 0 where
  Within : (x y : Point) → Pairing
  Several : (x : Point) (d : Direct) (directs : List Direct) → Pairing

abbrev pub side_type : (side : Side) (q : Carrier) (depth : ℕ) → Pairing → Term
side_type First q depth (Within x y) = unequal q depth x y
side_type Second q depth (Within x y) = no_part q depth x y
side_type First q depth (Several x d directs) = not_within q depth x (at_level d.argument)
side_type Second q depth (Several x d directs) = none_within q depth x directs

-- Pair.l A B
abbrev pub pairing_type : (q : Carrier) (depth : ℕ) → Pairing → Term
pairing_type q depth pairing = pair_of q.level (side_type First q depth pairing) (side_type Second q depth pairing)

-- Pair.l!elim.l A B (\_. C) (\a b. c) both, where C is A and c is a for the first side, and C is B and c is b for the second
abbrev pub projection : (side : Side) (q : Carrier) (depth : ℕ) → Pairing → (both : Term) → Term
projection side q depth pairing both =
    App (App (App (App (App (Elim (pair_type q.level) q.level)
    (side_type First q depth pairing)) (side_type Second q depth pairing))
    (Lam (pairing_type q depth pairing) (side_type side q (depth + 1) pairing)))
    (Lam (side_type First q depth pairing) (Lam (side_type Second q (depth + 1) pairing) (side_variable side))))
    both

-- the part of a tuple for direct arguments about the one with the level `wanted`
abbrev pub component : (q : Carrier) (depth : ℕ) (x : Point) (wanted : ℕ) → List Direct → (tuple : Term) → Term
component q depth x wanted [] tuple = tuple
component q depth x wanted (d ∷ directs) tuple =
    cond (d.argument == wanted) (projection First q depth (Several x d directs) tuple)
    (component q depth x wanted directs (projection Second q depth (Several x d directs) tuple))
