-- How high a telescopic J is.
use Rattle.std.proofs.Common.{◌≡◌, ◌*◌, ◌+◌, ◌<◌, ◌≤◌, ℕ, zero, suc, max, List, [], ◌∷◌, All, length, map, refl, ap, sym, subst, arith}
use Rattle.std.proofs.lemmas.List.{length-map}
use Rattle.std.proofs.lemmas.List.Elements.{All-cons, All-nil}
use Rattle.theory.specs.Terms.{Term, Var, Sort, Pi, Lam, App, Let, Const, Fam, Con, Elim, AxiomK, height, lift}
use Rattle.theory.specs.Telescopes.{products}
use Rattle.theory.specs.Signatures.{equality, equation as equation_of}
use Rattle.core_terms.specs.Levels.{bind, variable}
use Rattle.core_terms.specs.declared.levels.Binder.{Binder}
use Rattle.core_terms.specs.declared.levels.Binder.TheVariants.{Product, Function}
use Rattle.core_terms.proofs.Builders.{height-products}
use Rattle.core_terms.proofs.Placing.{height-bind, height-functions}
use Rattle.tele_eq.specs.Items.{Item, each_position, greatest_level, level_at, positions_of}
use Rattle.tele_eq.specs.Dependences.{dependences}
use Rattle.tele_eq.specs.Environments.{Environment, inside, outside}
use Rattle.tele_eq.specs.TelescopicEquality.{Goal, Lefts, applied_goal, applied_to_pairs, equation, equations, equations_over, identity, left_sides, motive, reflexive, telescopic_j, transport_type, type_with}
use Rattle.tele_eq.specs.Congruences.{common_level, congruence_below, image_equation, images}
use Rattle.unification.proofs.Counts.{length-equations}
use Rattle.height_laws.specs.Laws.{CongruencesAreHigh, EliminationIsHigh, EquationsAreHigh, TelescopicJIsHigh, TransportIsHigh, least_height}

height-app : (f a : Term) → height (App f a) ≡ 1 + max (height f) (height a)
height-app f a = refl

height-let : (a t b : Term) → height (Let a t b) ≡ 1 + max (height a) (max (height t) (height b))
height-let a t b = refl

some-height : (t : Term) → 1 ≤ height t
some-height (Pi a b) = omega (arith, height-bind Product a b)
some-height (Lam a b) = omega (arith, height-bind Function a b)
some-height (App f a) = omega (arith, height-app f a)
some-height (Let a t b) = omega (arith, height-let a t b)
some-height (Var n) = omega arith
some-height (Sort i) = omega arith
some-height (Const n) = omega arith
some-height (Fam n) = omega arith
some-height (Con n c) = omega arith
some-height (Elim n m) = omega arith
some-height (AxiomK i m) = omega arith

-- an application to two terms for each of the positions
height-pairs : (head : Term) (positions : List ℕ) (z e : Environment) (depth : ℕ) → height head + 2 * length positions ≤ height (applied_to_pairs head positions z e depth)
height-pairs head [] z e depth = omega arith
height-pairs head (t ∷ positions) z e depth =
    omega (
      arith,
      height-pairs (App (App head (z depth t)) (e depth t)) positions z e depth,
      height-app (App head (z depth t)) (e depth t),
      height-app head (z depth t),
    )

-- two binders for each of the positions
height-equations : (binder : Binder) (X : List Item) (w : Lefts) (positions : List ℕ) (z e : Environment) (depth : ℕ) (end : Term)
    → height end + 2 * length positions ≤ height (equations_over binder X w positions z e depth end)
height-equations binder X w [] z e depth end = omega arith
height-equations binder X w (t ∷ positions) z e depth end =
    let rest = equations_over binder X w positions z e (depth + 2) end in
    let one = bind binder (equation X w z e (depth + 1) t) rest in
    omega (
      arith,
      height-equations binder X w positions z e (depth + 2) end,
      height-bind binder (type_with X z depth t) one,
      height-bind binder (equation X w z e (depth + 1) t) rest,
    )

-- The eliminator with its first four arguments is higher than the last of them, and at least 5 high.
height-head : (E A u M method : Term) → 3 ≤ height M → 5 ≤ height (App (App (App (App E A) u) M) method)
height-head E A u M method high =
    omega (
      arith,
      some-height E,
      height-app E A,
      height-app (App E A) u,
      height-app (App (App E A) u) M,
      height-app (App (App (App E A) u) M) method,
    )

over-method : (f method : Term) → height method + 1 ≤ height (App f method)
over-method f method = omega (arith, height-app f method)

height-two : (a b c : Term) → 3 ≤ height (Lam a (Lam b c))
height-two a b c = omega (arith, some-height c, height-bind Function b c, height-bind Function a (Lam b c))

height-motive : (X : List Item) (u : Environment) (w : Lefts) (C : Goal) (s : ℕ) (positions : List ℕ) (depth : ℕ) → 3 ≤ height (motive X u w C s positions depth)
height-motive X u w C s positions depth =
    let z = inside (s ∷ positions) depth u in
    let e = inside (s ∷ positions) (depth + 1) (reflexive X u) in
    height-two (type_with X u depth s)
    (equation_of (level_at X s) (type_with X u (depth + 1) s) (u (depth + 1) s) (variable (depth + 1) depth))
    (equations_over Product X w positions z e (depth + 2) (C z e (depth + 2 + 2 * length positions)))

-- what the rest has, which may have no equation
abbrev least-rest : ℕ → ℕ
least-rest zero = 1
least-rest (suc n) = least_height (suc n)

one-more : (n rest method head whole : ℕ) → least-rest n ≤ rest → head + 2 * suc n ≤ whole → 5 ≤ head → method + 1 ≤ head → rest + 2 * n ≤ method
    → least_height (suc n) ≤ whole
one-more zero rest method head whole low wide five under inner = omega arith
one-more (suc n) rest method head whole low wide five under inner =
    let one : least_height (suc n) ≤ rest = low in
    let two : least_height (suc (suc n)) ≡ least_height (suc n) + (4 * suc n + 3) = refl in
    omega (arith, one, two)

high-rest : (X : List Item) (u : Environment) (w : Lefts) (m : ℕ) (C : Goal) (base : ℕ → Term) (positions : List ℕ) (z e : Environment) (depth : ℕ)
    → least-rest (length positions) ≤ height (telescopic_j X u w m C base positions z e depth)
high-rest X u w m C base [] z e depth = some-height (base depth)
high-rest X u w m C base (s ∷ positions) z e depth =
    let z' = inside positions depth u in
    let e' = inside positions (depth + 1) (reflexive X u) in
    let rest = telescopic_j X u w m C base positions z' e' (depth + 2 * length positions) in
    let method = equations_over Function X w positions z' e' depth rest in
    let E = Elim (equality (level_at X s)) m in
    let A = type_with X u depth s in
    let M = motive X u w C s positions depth in
    let head = App (App (App (App E A) (u depth s)) M) method in
    one-more (length positions) (height rest) (height method) (height head) (height (applied_to_pairs head (s ∷ positions) z e depth))
    (high-rest X u w m C base positions z' e' (depth + 2 * length positions))
    (height-pairs head (s ∷ positions) z e depth)
    (height-head E A (u depth s) M method (height-motive X u w C s positions depth))
    (over-method (App (App (App E A) (u depth s)) M) method)
    (height-equations Function X w positions z' e' depth rest)

high : (X : List Item) (u : Environment) (w : Lefts) (m : ℕ) (C : Goal) (base : ℕ → Term) (s : ℕ) (positions : List ℕ) (z e : Environment) (depth : ℕ)
    → least_height (suc (length positions)) ≤ height (telescopic_j X u w m C base (s ∷ positions) z e depth)
high X u w m C base s positions z e depth = high-rest X u w m C base (s ∷ positions) z e depth

-- ---- what is said of it

pub telescopic_j_is_high : TelescopicJIsHigh
telescopic_j_is_high X u w m C base s positions z e depth = high X u w m C base s positions z e depth

least-four : (k : ℕ) → 4 ≤ least_height k
least-four zero = omega arith
least-four (suc k) = omega (arith, least-four k)

rises : (n k : ℕ) → n ≤ k → least_height n ≤ least_height k
rises zero k below = least-four k
rises (suc n) zero below = omega arith
rises (suc n) (suc k) below = omega (arith, rises n k (omega arith))

of-many : least_height 32 ≡ 2084
of-many = refl

-- along 32 positions or more
too-high : (X : List Item) (u : Environment) (w : Lefts) (m : ℕ) (C : Goal) (base : ℕ → Term) (positions : List ℕ) (z e : Environment) (depth : ℕ)
    → 32 ≤ length positions → 2000 < height (telescopic_j X u w m C base positions z e depth)
too-high X u w m C base [] z e depth many = omega arith
too-high X u w m C base (s ∷ positions) z e depth many =
    omega (arith, of-many, rises 32 (suc (length positions)) many, high X u w m C base s positions z e depth)

count-positions : {A : Type 0} (f : ℕ → A) (j count : ℕ) → length (each_position f j count) ≡ count
count-positions f j zero = refl
count-positions f j (suc count) = ap suc (count-positions f (j + 1) count)

all-positions : (X : List Item) → 32 ≤ length X → 32 ≤ length (positions_of X)
all-positions X many = subst (λ n. 32 ≤ n) (sym (count-positions (λ j. j) 0 (length X))) many

pub elimination_is_high : EliminationIsHigh
elimination_is_high X m head base left right eqs many =
    let u = outside left in
    too-high X u (left_sides X u) m (applied_goal head (length X)) (λ depth. lift base depth 0) (positions_of X) (outside right) (outside eqs) 0
    (all-positions X many)

pub transport_is_high : TransportIsHigh
transport_is_high X j left right eqs many =
    let u = outside left in
    let m = greatest_level X (level_at X j) (dependences X j) in
    let J = telescopic_j X u (left_sides X u) m (transport_type X u j) (identity X u j) (dependences X j) (outside right) (outside eqs) 0 in
    omega (arith, too-high X u (left_sides X u) m (transport_type X u j) (identity X u j) (dependences X j) (outside right) (outside eqs) 0 many, height-app J (u 0 j))

high-congruence : (n : ℕ) (X Y : List Item) (f : List Term) (u z e : Environment) (depth j : ℕ) → 32 ≤ length X → 2000 < height (congruence_below (suc n) X Y f u z e depth j)
high-congruence n X Y f u z e depth j many =
    too-high X u (left_sides X u) (common_level X Y)
    (λ (z : Environment) (e : Environment) (depth : ℕ). image_equation X Y f u z (congruence_below n X Y f u z e) depth j)
    (λ (depth : ℕ). reflexive Y (images X f u) depth j) (positions_of X) z e depth (all-positions X many)

each-high : (X Y : List Item) (f : List Term) (u z e : Environment) (n j count : ℕ) → 32 ≤ length X
    → All (λ t. 2000 < height t) (each_position (congruence_below (suc n) X Y f u z e 0) j count)
each-high X Y f u z e n j zero many = All-nil (λ t. 2000 < height t)
each-high X Y f u z e n j (suc count) many =
    All-cons (λ t. 2000 < height t) (congruence_below (suc n) X Y f u z e 0 j) (each_position (congruence_below (suc n) X Y f u z e 0) (j + 1) count)
    (high-congruence n X Y f u z e 0 j many) (each-high X Y f u z e n (j + 1) count many)

pub congruences_are_high : CongruencesAreHigh
congruences_are_high X [] f left right eqs many = All-nil (λ t. 2000 < height t)
congruences_are_high X (y ∷ Y) f left right eqs many = each-high X (y ∷ Y) f (outside left) (outside right) (outside eqs) (length Y) 0 (suc (length Y)) many

pub equations_are_high : EquationsAreHigh
equations_are_high X left right goal many =
    let types = map (λ x. x.type) X in
    let eqs = equations X left right in
    omega (
      arith,
      many,
      some-height goal,
      height-products eqs goal,
      length-equations X left right,
      height-functions types (products eqs goal),
      length-map X (λ x. x.type),
    )
