-- Equations move after other variables than before, once others are solved. The terms for the variables of a context and for
-- the places or equations after it are given by levels.
use Rattle.std.specs.Prelude.{ℕ, ◌+◌, ◌-◌, nat_lt, cond, List, [], ◌∷◌}
use Rattle.theory.specs.Terms.{Term, lift}
use Rattle.core_terms.specs.Levels.{variable}
use Rattle.tele_eq.specs.Items.{Item, term_at}
use Rattle.tele_eq.specs.Environments.{Environment, put}
use Rattle.unification.specs.States.{Equation}

-- terms over the first n variables, at a depth
abbrev pub over_first : (n : ℕ) → List Term → Environment
over_first n terms depth position = lift (term_at terms position) (depth - n) 0

-- n variables, then the first `count` places after them, then the further places, which are variables from level `new` on
abbrev pub behind : (n count new : ℕ) (variables places : Environment) → Environment
behind n count new variables places depth j =
    cond (nat_lt j n) (variables depth j)
    (cond (nat_lt j (n + count)) (places depth (j - n)) (variable depth (new + (j - (n + count)))))

abbrev pub moved_item : Environment → (size depth : ℕ) → Item → Item
moved_item s size depth x = record { type = put s size depth x.type; level = x.level }

-- Equations that came after `size` variables, and are now at a depth: `items` stands for the variables in their places,
-- `types` in their types, and `side` makes their sides.
abbrev pub moved : (items types : Environment) (side : Term → Term) (size depth : ℕ) → List Equation → List Equation
moved items types side size depth [] = []
moved items types side size depth (e ∷ equations) =
    record {
      place = moved_item items size depth e.place;
      type = put types size depth e.type;
      left = side e.left;
      right = side e.right;
    }
    ∷ moved items types side (size + 1) (depth + 1) equations
