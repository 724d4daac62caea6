-- The answers of the calls of telescopic J, over plain values.
use Rattle.std.proofs.Common.{◌≡◌, ℕ, zero, suc, ◌+◌, ◌-◌, ◌*◌, ◌≤◌, List, [], ◌∷◌, length, take, drop, ap, ◌∙◌, length-drop, arith}
use Rattle.std.proofs.lemmas.List.{length-take-le}
use Rattle.theory.specs.Terms.{Term}
use Rattle.core_terms.specs.Meanings.{tele_of}
use Rattle.tele_eq.specs.Items.{AreUpTo, Item, items_of, positions_of}
use Rattle.tele_eq.specs.CodeEnvironments.{goal_of, left_of, variables_of, proofs_of, environment_of, equations_of}
use Rattle.tele_eq.specs.declared.sides.Map.{Map}
use Rattle.tele_eq.specs.declared.sides.Left.TheVariants.{Images}
use Rattle.tele_eq.specs.declared.sides.Sides.{Sides}
use Rattle.tele_eq.specs.declared.sides.Pairs.TheVariants.{Mapped}
use Rattle.tele_eq.specs.declared.sides.Goal.TheVariants.{Congruence}
use Rattle.tele_eq.specs.Dependences.{dependences}
use Rattle.tele_eq.specs.Environments.{Environment, outside}
use Rattle.tele_eq.specs.TelescopicEquality.{equation, left_below, transported, telescopic_j, reflexive}
use Rattle.tele_eq.specs.Congruences.{congruence_below, common_level, image_equation, images}

before : (n : ℕ) → (n ≡ 0 → ⊥) → n ≡ suc (n - 1)
before n more = omega arith

fixed-step : (X : List Item) (u : Environment) (n : ℕ) (positions : List ℕ) (j : ℕ) (z e : Environment) (depth : ℕ)
    → dependences X j ≡ positions → 1 ≤ length positions
    → left_below (suc n) X u z e depth j ≡ transported X u (left_below n X u) positions j z e depth
fixed-step X u n [] j z e depth is some = absurd (omega arith)
fixed-step X u n (s ∷ positions) j z e depth is some = rw is

-- the left side at a position whose type depends on others
pub left_below-step : (n : ℕ) (X : List Item) (u : Environment) (positions : List ℕ) (j : ℕ) (z e : Environment) (depth : ℕ)
    → (n ≡ 0 → ⊥) → dependences X j ≡ positions → 1 ≤ length positions
    → left_below n X u z e depth j ≡ transported X u (left_below (n - 1) X u) positions j z e depth
left_below-step n X u positions j z e depth more is some =
    ap (λ k. left_below k X u z e depth j) (before n more) ∙ fixed-step X u (n - 1) positions j z e depth is some

congruence-step : (n : ℕ) (X Y : List Item) (f : List Term) (u z e : Environment) (depth j : ℕ) (count m : ℕ) (positions : List ℕ)
    → count ≡ length X → m ≡ common_level X Y → positions ≡ positions_of X
    → congruence_below (suc n) X Y f u z e depth j
    ≡ telescopic_j X u (left_below count X u) m
    (λ z e depth. image_equation X Y f u z (congruence_below n X Y f u z e) depth j)
    (λ depth. reflexive Y (images X f u) depth j) positions z e depth
congruence-step n X Y f u z e depth j count m positions ec em ep = rw (ec, em, ep)

-- a congruence with others before it
pub congruence_below-step : (n : ℕ) (X Y : List Item) (f : List Term) (u z e : Environment) (depth j : ℕ) (count m : ℕ)
    (positions : List ℕ) → (n ≡ 0 → ⊥) → count ≡ length X → m ≡ common_level X Y → positions ≡ positions_of X
    → congruence_below n X Y f u z e depth j
    ≡ telescopic_j X u (left_below count X u) m
    (λ z e depth. image_equation X Y f u z (congruence_below (n - 1) X Y f u z e) depth j)
    (λ depth. reflexive Y (images X f u) depth j) positions z e depth
congruence_below-step n X Y f u z e depth j count m positions more ec em ep =
    ap (λ k. congruence_below k X Y f u z e depth j) (before n more)
    ∙ congruence-step (n - 1) X Y f u z e depth j count m positions ec em ep

-- the goal of a congruence, where the telescope and its left terms are those of the map
pub goal-of_map : (X : List Item) (u : Environment) (map : Map) (n j : ℕ) (sides : Sides) (depth count : ℕ)
    → X ≡ items_of map.from.now → u ≡ outside (tele_of map.left.now) → count ≡ length (items_of map.to.now)
    → goal_of X u (Congruence map n j) (variables_of u sides) (proofs_of X u sides) depth
    ≡ equation (items_of map.to.now) (left_below count (items_of map.to.now) (left_of (Images map)))
    (environment_of (left_of (Images map)) (Mapped map n sides))
    (equations_of (items_of map.to.now) (left_of (Images map)) (Mapped map n sides)) depth j
goal-of_map X u map n j sides depth count eX eu ec = rw (eX, eu, ec)

-- the depth after the rest of the positions
room-behind : (depth count more : ℕ) → 1 ≤ count → depth + count * count + 5000 + more ≤ 2030000000
    → depth + 2 * (count - 1) + (count - 1) * (count - 1) + 5000 + more ≤ 2030000000
room-behind depth zero more some le = absurd (omega arith)
room-behind depth (suc count) more some le =
    let e : suc count - 1 ≡ count = omega arith in
    rw e (omega arith)

-- ---- the rest of the positions, as a slice has it

length-rest : (positions : List ℕ) → length (take (length positions - 1) (drop 1 positions)) ≡ length positions - 1
length-rest positions =
    let e : length (drop 1 positions) ≡ length positions - 1 = length-drop 1 positions in
    length-take-le (length positions - 1) (drop 1 positions) (omega arith)

pub room-rest : (positions : List ℕ) (depth more : ℕ) → 1 ≤ length positions
    → depth + length positions * length positions + 5000 + more ≤ 2030000000
    → depth + 2 * length (take (length positions - 1) (drop 1 positions))
    + length (take (length positions - 1) (drop 1 positions)) * length (take (length positions - 1) (drop 1 positions)) + 5000 + more
    ≤ 2030000000
room-rest positions depth more some le = rw (length-rest positions) (room-behind depth (length positions) more some le)

up_to-take : (n k : ℕ) (positions : List ℕ) → AreUpTo n positions → AreUpTo n (take k positions)
up_to-take n zero positions all = tt
up_to-take n (suc k) [] all = tt
up_to-take n (suc k) (t ∷ positions) all = (all.0, up_to-take n k positions all.1)

pub up_to-rest : (n k : ℕ) (positions : List ℕ) → AreUpTo n positions → AreUpTo n (take k (drop 1 positions))
up_to-rest n k [] all = up_to-take n k [] tt
up_to-rest n k (t ∷ positions) all = up_to-take n k positions all.1
