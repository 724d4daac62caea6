-- Along many equations at once a term is too high, whatever the equations are. For n of them the eliminator has two arguments for each besides
-- its first four, and the fourth is, under two functions for each of the others, the same for n - 1 of them.
use Rattle.std.specs.Prelude.{ℕ, zero, suc, ◌*◌, ◌+◌, ◌<◌, ◌≤◌, List, ◌∷◌, All, length, map}
use Rattle.theory.specs.Terms.{Term, height}
use Rattle.theory.specs.Telescopes.{functions, products}
use Rattle.tele_eq.specs.Items.{Item}
use Rattle.tele_eq.specs.Dependences.{dependences}
use Rattle.tele_eq.specs.Environments.{Environment}
use Rattle.tele_eq.specs.TelescopicEquality.{Goal, Lefts, equations, elimination, telescopic_j, transport}
use Rattle.tele_eq.specs.Congruences.{congruences}
use Rattle.unification.specs.Heights.{most_places}

-- 2n² + n + 4: one equation after n others adds two arguments for each, two functions for each of the others, and one application
abbrev pub least_height : (n : ℕ) → ℕ
least_height zero = 4
least_height (suc n) = least_height n + (4 * n + 3)

-- a telescopic J along n equations, one or more, has at least this height
abbrev pub TelescopicJIsHigh : Type 0
TelescopicJIsHigh =
    (X : List Item) (u : Environment) (w : Lefts) (m : ℕ) (C : Goal) (base : ℕ → Term) (s : ℕ) (positions : List ℕ) (z e : Environment) (depth : ℕ) →
    least_height (length (s ∷ positions)) ≤ height (telescopic_j X u w m C base (s ∷ positions) z e depth)

-- So what is solved along 32 equations or more is too high: all at once,
abbrev pub EliminationIsHigh : Type 0
EliminationIsHigh =
    (X : List Item) (m : ℕ) (head base : Term) (left right eqs : List Term) → 32 ≤ length X → 2000 < height (elimination X m head base left right eqs)

-- by a transport along those that a type depends on,
abbrev pub TransportIsHigh : Type 0
TransportIsHigh =
    (X : List Item) (j : ℕ) (left right eqs : List Term) → 32 ≤ length (dependences X j) → 2000 < height (transport X j left right eqs)

-- and in each congruence of terms over so many positions.
abbrev pub CongruencesAreHigh : Type 0
CongruencesAreHigh =
    (X Y : List Item) (f left right eqs : List Term) → 32 ≤ length X → All (λ t. 2000 < height t) (congruences X Y f left right eqs)

-- The motive of a split binds a variable for each place and then the equations there. With more places than unification takes it is too high,
-- whatever its goal is.
abbrev pub EquationsAreHigh : Type 0
EquationsAreHigh =
    (X : List Item) (left right : List Term) (goal : Term) → most_places < length X →
    2000 < height (functions (map (λ x. x.type) X) (products (equations X left right) goal))
