-- Congruence: terms f over a telescope X that inhabit a telescope Y, at two lists of terms with equations, are equal.
use Rattle.std.specs.Prelude.{ℕ, zero, suc, List, length}
use Rattle.theory.specs.Terms.{Term}
use Rattle.tele_eq.specs.Items.{Item, term_at, greatest_level, each_position, positions_of}
use Rattle.tele_eq.specs.Environments.{Environment, outside, put}
use Rattle.tele_eq.specs.TelescopicEquality.{reflexive, equation, telescopic_j, left_sides}

-- f_j with terms put for the variables of X
abbrev pub images : (X : List Item) (f : List Term) → Environment → Environment
images X f z depth j = put z (length X) depth (term_at f j)

-- the equation of f_j[u] and f_j[z], with those of the earlier positions for its left side
abbrev pub image_equation : (X Y : List Item) (f : List Term) (u z : Environment) (earlier : Environment) → Environment
image_equation X Y f u z earlier depth j =
    equation Y (left_sides Y (images X f u)) (images X f z) earlier depth j

-- the greatest level in two telescopes
abbrev pub common_level : (X Y : List Item) → ℕ
common_level X Y = greatest_level Y (greatest_level X 0 (positions_of X)) (positions_of Y)

-- the equation of f_j[u] and f_j[z], by way of the equations e at all positions of X; j is below n
abbrev pub congruence_below : (n : ℕ) (X Y : List Item) (f : List Term) (u z e : Environment) → Environment
congruence_below zero X Y f u z e depth j = reflexive Y (images X f u) depth j
congruence_below (suc n) X Y f u z e depth j =
    telescopic_j X u (left_sides X u) (common_level X Y)
    (λ (z : Environment) (e : Environment) (depth : ℕ). image_equation X Y f u z (congruence_below n X Y f u z e) depth j)
    (λ (depth : ℕ). reflexive Y (images X f u) depth j) (positions_of X) z e depth

-- congs(X, Y; f; es): a congruence for each position of Y
abbrev pub congruences : (X Y : List Item) (f left right eqs : List Term) → List Term
congruences X Y f left right eqs =
    each_position (congruence_below (length Y) X Y f (outside left) (outside right) (outside eqs) 0) 0 (length Y)
