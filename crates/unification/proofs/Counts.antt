-- How many there are: equations of a telescope, their types and their sides.
use Rattle.std.proofs.Common.{◌≡◌, suc, ◌+◌, List, [], ◌∷◌, length, refl, ap, arith}
use Rattle.theory.specs.Terms.{Term}
use Rattle.theory.specs.Telescopes.{Telescope}
use Rattle.tele_eq.specs.Items.{Item}
use Rattle.tele_eq.specs.TelescopicEquality.{equations}
use Rattle.tele_eq.proofs.Positions.{length-each_position}
use Rattle.unification.specs.States.{Equation, equations_at, types_as_they_stand}

-- an equation for each item
pub length-equations : (X : List Item) (us vs : List Term) → length (equations X us vs) ≡ length X
length-equations X us vs = length-each_position _ 0 (length X)

pub length-equations_at : (X : List Item) (types : Telescope) (us vs : List Term) → length types ≡ length X → length us ≡ length X → length vs ≡ length X
    → length (equations_at X types us vs) ≡ length X
length-equations_at [] types us vs a b c = refl
length-equations_at (x ∷ X) [] us vs a b c = absurd (omega arith)
length-equations_at (x ∷ X) (t ∷ types) [] vs a b c = absurd (omega arith)
length-equations_at (x ∷ X) (t ∷ types) (u ∷ us) [] a b c = absurd (omega arith)
length-equations_at (x ∷ X) (t ∷ types) (u ∷ us) (v ∷ vs) a b c =
    ap suc (length-equations_at X types us vs (omega arith) (omega arith) (omega arith))

pub length-types : (equations : List Equation) → length (types_as_they_stand equations) ≡ length equations
length-types [] = refl
length-types (e ∷ equations) = ap suc (length-types equations)
