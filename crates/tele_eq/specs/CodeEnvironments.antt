-- The meanings of the sides, the left terms and the goals of the code.
use Rattle.std.specs.Prelude.{◌≡◌, ℕ, ◌+◌, ◌*◌, ◌≤◌, List, length}
use Rattle.core_terms.specs.Meanings.{tree_of, tele_of}
use Rattle.theory.specs.Terms.{Term, lift}
use Rattle.tele_eq.specs.Environments.{Environment, outside, inside}
use Rattle.tele_eq.specs.Items.{Item, IsSmall, AreSmall, AreSmallTerms, items_of}
use Rattle.tele_eq.specs.TelescopicEquality as pure
use Rattle.tele_eq.specs.TelescopicEquality.{as_bound, reflexive, identity, transport_type, applied_goal}
use Rattle.tele_eq.specs.Congruences.{images, image_equation, congruence_below}
use Rattle.tele_eq.specs.declared.sides.Map.{Map}
use Rattle.tele_eq.specs.declared.sides.Left.{Left}
use Rattle.tele_eq.specs.declared.sides.Left.TheVariants.{Terms, Images}
use Rattle.tele_eq.specs.declared.sides.Sides.{Sides}
use Rattle.tele_eq.specs.declared.sides.Sides.TheVariants.{Given, Bound, Inside}
use Rattle.tele_eq.specs.declared.sides.Pairs.{Pairs}
use Rattle.tele_eq.specs.declared.sides.Pairs.TheVariants.{Plain, Mapped}
use Rattle.tele_eq.specs.declared.sides.Goal.{Goal}
use Rattle.tele_eq.specs.declared.sides.Goal.TheVariants.{Transport, Congruence, Applied}

-- ---- environments for the variables

-- the terms of a map at each position of its second telescope
abbrev pub images_of : Map → Environment → Environment
images_of map z = images (items_of map.from.now) (tele_of map.terms.now) z

abbrev pub left_of : Left → Environment
left_of (Terms terms) = outside (tele_of terms.now)
left_of (Images map) = images_of map (outside (tele_of map.left.now))

abbrev pub variables_of : (u : Environment) → Sides → Environment
variables_of u (Given right eqs) = outside (tele_of right.now)
variables_of u (Bound right) = outside (tele_of right.now)
variables_of u (Inside positions level) = inside positions.now level u

abbrev pub environment_of : (u : Environment) → Pairs → Environment
environment_of u (Plain sides) = variables_of u sides
environment_of u (Mapped map n sides) = images_of map (variables_of (outside (tele_of map.left.now)) sides)

-- ---- environments for the equations of a telescope with left terms u

abbrev pub proofs_of : List Item → (u : Environment) → Sides → Environment
proofs_of X u (Given right eqs) = outside (tele_of eqs.now)
proofs_of X u (Bound right) = as_bound
proofs_of X u (Inside positions level) = inside positions.now (level + 1) (reflexive X u)

-- the congruences that a map gives from the terms for the variables and the equations of its first telescope
abbrev pub congruences_of : (n : ℕ) → Map → (z e : Environment) → Environment
congruences_of n map z e =
    congruence_below n (items_of map.from.now) (items_of map.to.now) (tele_of map.terms.now) (outside (tele_of map.left.now)) z e

abbrev pub equations_of : List Item → (u : Environment) → Pairs → Environment
equations_of X u (Plain sides) = proofs_of X u sides
equations_of X u (Mapped map n sides) =
    congruences_of n map (variables_of (outside (tele_of map.left.now)) sides)
    (proofs_of (items_of map.from.now) (outside (tele_of map.left.now)) sides)

-- ---- goals of a telescopic J, and their bases

abbrev pub goal_of : List Item → (u : Environment) → Goal → pure.Goal
goal_of X u (Transport j) = transport_type X u j
goal_of X u (Congruence map n j) =
    λ (z : Environment) (e : Environment) (depth : ℕ).
    image_equation (items_of map.from.now) (items_of map.to.now) (tele_of map.terms.now) (outside (tele_of map.left.now)) z
    (congruences_of n map z e) depth j
goal_of X u (Applied head base) = applied_goal (tree_of head.now) (length X)

abbrev pub base_of : List Item → (u : Environment) → Goal → (depth : ℕ) → Term
base_of X u (Transport j) = identity X u j
base_of X u (Congruence map n j) =
    λ (depth : ℕ). reflexive (items_of map.to.now) (images_of map (outside (tele_of map.left.now))) depth j
base_of X u (Applied head base) = λ (depth : ℕ). lift (tree_of base.now) depth 0

-- ---- bounds

pub record IsSmallMap (map : Map) : Type 0 where
  pub from : AreSmall (items_of map.from.now)
  pub from_length : length map.from.now ≤ 1000
  pub to : AreSmall (items_of map.to.now)
  pub to_length : length map.to.now ≤ 1000
  pub terms : AreSmallTerms (tele_of map.terms.now)
  pub left : AreSmallTerms (tele_of map.left.now)

-- whether a map is among them
abbrev pub maps_of_left : Left → ℕ
maps_of_left (Terms terms) = 0
maps_of_left (Images map) = 1

abbrev pub maps_of_pairs : Pairs → ℕ
maps_of_pairs (Plain sides) = 0
maps_of_pairs (Mapped map n sides) = 1

abbrev pub HasSmallTerms : Left → Type 0
HasSmallTerms (Terms terms) = AreSmallTerms (tele_of terms.now)
HasSmallTerms (Images map) = IsSmallMap map

abbrev pub IsSmallLeft : Left → Type 0
IsSmallLeft left = HasSmallTerms left × (maps_of_left left ≤ 1)

abbrev pub AreSmallSides : Sides → Type 0
AreSmallSides (Given right eqs) = AreSmallTerms (tele_of right.now) × AreSmallTerms (tele_of eqs.now)
AreSmallSides (Bound right) = AreSmallTerms (tele_of right.now)
AreSmallSides (Inside positions level) = level + 2 * length positions.now ≤ 2040000000

abbrev pub HaveSmallSides : Pairs → Type 0
HaveSmallSides (Plain sides) = AreSmallSides sides
HaveSmallSides (Mapped map n sides) = IsSmallMap map × AreSmallSides sides × (n ≤ 1000)

abbrev pub AreSmallPairs : Pairs → Type 0
AreSmallPairs pairs = HaveSmallSides pairs × (maps_of_pairs pairs ≤ 1)

-- the goal is small, and a map's own telescope is the one that J is over
abbrev pub IsSmallGoal : List Item → (u : Environment) → Goal → Type 0
IsSmallGoal X u (Transport j) = j ≤ 1000
IsSmallGoal X u (Congruence map n j) =
    IsSmallMap map × (n ≤ 1000) × (j ≤ 1000) × (X ≡ items_of map.from.now) × (u ≡ outside (tele_of map.left.now))
IsSmallGoal X u (Applied head base) = IsSmall (tree_of head.now) × IsSmall (tree_of base.now) × (length X ≤ 1000)

-- how many levels of congruences are left in them, and how many of transports and congruences, which bound how deep terms go
abbrev pub rank_of_pairs : Pairs → ℕ
rank_of_pairs (Plain sides) = 0
rank_of_pairs (Mapped map n sides) = 2 * n + 1

abbrev pub rank_of_goal : Goal → ℕ
rank_of_goal (Transport j) = 0
rank_of_goal (Congruence map n j) = 2 * n + 2
rank_of_goal (Applied head base) = 0

abbrev pub levels_of_pairs : (n : ℕ) → Pairs → ℕ
levels_of_pairs n (Plain sides) = n
levels_of_pairs n (Mapped map c sides) = 1000 + c

abbrev pub levels_of_goal : (n : ℕ) → Goal → ℕ
levels_of_goal n (Transport j) = n
levels_of_goal n (Congruence map c j) = 1000 + c
levels_of_goal n (Applied head base) = n
