-- Scopes of a telescope in another order.
use Rattle.std.specs.Prelude.{◌≡◌, ℕ, ◌<◌, true, Option, option_and_then, List, ◌∷◌, ◌++◌, length}
use Rattle.theory.specs.Terms.{Term}
use Rattle.theory.specs.Telescopes.{Telescope}
use Rattle.theory.specs.Signatures.{Signature}
use Rattle.theory.specs.SignatureScopes.{IsScoped, IsScopedTelescope}
use Rattle.tele_eq.specs.Levels.{place_in}
use Rattle.tree_translation.specs.structural_rec.Laws.{IsTelescopeOrder}
use Rattle.tree_translation.specs.structural_rec.Positions.{mentions}
use Rattle.tree_translation.specs.Recursion.{recursion_at, order_of, ordered_telescope, ordered_term}

-- A telescope is scoped, with a term over it, in another order too, where each type comes after all that it mentions.
abbrev pub OrderedScoped : Type 0
OrderedScoped =
    (S : Signature) (tele : Telescope) (goal : Term) (order : List ℕ) → IsScopedTelescope S 0 tele → IsScoped S (length tele) goal → IsTelescopeOrder tele order →
    IsScopedTelescope S 0 (ordered_telescope tele order) × IsScoped S (length (ordered_telescope tele order)) (ordered_term (length tele) order goal)

-- The order of recursion is such an order, whether there is a decreasing argument or not.
abbrev pub RecursionOrdered : Type 0
RecursionOrdered =
    (S : Signature) (tele : Telescope) (position : Option ℕ) →
    IsTelescopeOrder tele (order_of (length tele) (option_and_then (recursion_at S tele) position))

-- In such an order each position has a place, and what a type mentions has a place before the type's own. So each variable of a type or of
-- the goal is counted from its own binder in that order, and no number stands for two.
abbrev pub OrderedPlaces : Type 0
OrderedPlaces =
    (tele : Telescope) (order : List ℕ) → IsTelescopeOrder tele order →
    ((k : ℕ) → k < length tele → place_in order k < length tele) ×
    ((before behind : List ℕ) (i k : ℕ) → order ≡ before ++ i ∷ behind → mentions tele i k ≡ true → place_in order k < length before)
