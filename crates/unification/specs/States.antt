-- States of unification: equations between terms of a context, which are the members of a telescope of equations.
use Rattle.std.specs.Prelude.{List, [], ◌∷◌, length}
use Rattle.theory.specs.Terms.{Term}
use Rattle.theory.specs.Telescopes.{Telescope, variables}
use Rattle.tele_eq.specs.Items.{Item}

-- An equation of two terms of the context. Its place is an item of a telescope, over the context and the places before it; its
-- type, as it is, is over the context and the equations before it.
pub record Equation : Type 0 where
  pub place : Item
  pub type : Term
  pub left : Term
  pub right : Term

-- A context, from the outermost type on, the equations that are left, and a term of the context for each variable of the context
-- that was given.
pub record State : Type 0 where
  pub context : Telescope
  pub equations : List Equation
  pub solution : List Term

-- two lists of terms of a telescope in a context, which are to be made equal
pub record Problem : Type 0 where
  pub context : Telescope
  pub telescope : List Item
  pub left : List Term
  pub right : List Term

-- the equations at the places of a telescope, from their types and their sides
abbrev pub equations_at : List Item → Telescope → (left right : List Term) → List Equation
equations_at (x ∷ X) (a ∷ types) (u ∷ left) (v ∷ right) =
    record { place = x; type = a; left = u; right = v } ∷ equations_at X types left right
equations_at _ _ _ _ = []

-- the state from which a problem is solved, where its equations have these types: each variable stands for itself
abbrev pub starting : Problem → Telescope → State
starting p types = record {
  context = p.context;
  equations = equations_at p.telescope types p.left p.right;
  solution = variables (length p.context);
}

abbrev pub left_sides : List Equation → List Term
left_sides [] = []
left_sides (e ∷ equations) = e.left ∷ left_sides equations

abbrev pub right_sides : List Equation → List Term
right_sides [] = []
right_sides (e ∷ equations) = e.right ∷ right_sides equations

abbrev pub types_as_they_stand : List Equation → Telescope
types_as_they_stand [] = []
types_as_they_stand (e ∷ equations) = e.type ∷ types_as_they_stand equations
