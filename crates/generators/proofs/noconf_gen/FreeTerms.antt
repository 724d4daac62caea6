-- Free variables of what telescopic equality makes: over `base` variables of the context, at a depth, no variable is at
-- `base + depth` or above.
use Rattle.std.proofs.Common.{◌≡◌, ℕ, zero, suc, ◌+◌, ◌-◌, ◌*◌, ◌<◌, ◌≤◌, ◌==◌, Bool, true, false, nat_lt, cond, List, [], ◌∷◌, length, refl, arith}
use Rattle.std.proofs.lemmas.Bool.Decides.{nat_tests}
use Rattle.theory.specs.Terms.{Term, free_of, lift}
use Rattle.theory.specs.Terms.Term.{Var, Pi, Lam, App, Let}
use Rattle.theory.specs.Telescopes.{applied}
use Rattle.theory.proofs.FreeVariables.{free_of-lift}
use Rattle.core_terms.specs.Levels.{variable, bind}
use Rattle.core_terms.specs.declared.levels.Binder.{Binder}
use Rattle.core_terms.specs.declared.levels.Binder.TheVariants.{Product, Function}
use Rattle.case_below_gen.specs.CaseEntries.{closed_over}
use Rattle.tele_eq.specs.Items.{Item, term_at, type_at, level_at, each_position, positions_of, greatest_level}
use Rattle.tele_eq.specs.Dependences.{dependences}
use Rattle.tele_eq.specs.Environments.{Environment, outside, inside, put_under}
use Rattle.tele_eq.specs.TelescopicEquality.{type_with, reflexive, equation, Lefts, Goal, equations_over, applied_to_pairs, motive, telescopic_j, transport_type, identity, unless_fixed, left_below, left_sides, as_bound, equation_behind, equations, reflexivities}
use Rattle.tele_eq.specs.Congruences.{images, image_equation, common_level, congruence_below, congruences}

abbrev IsOpen : (base : ℕ) → Environment → Type 0
IsOpen base s = (depth position : ℕ) → free_of (s depth position) ≤ base + depth

abbrev AreOpenLefts : (base : ℕ) → Lefts → Type 0
AreOpenLefts base w = (z e : Environment) → IsOpen base z → IsOpen base e → IsOpen base (w z e)

abbrev IsOpenGoal : (base : ℕ) → Goal → Type 0
IsOpenGoal base C = (z e : Environment) → IsOpen base z → IsOpen base e → (depth : ℕ) → free_of (C z e depth) ≤ base + depth

-- each type of a telescope is over the variables before it
abbrev pub HasOpenTypes : (base : ℕ) → List Item → Type 0
HasOpenTypes base X = (j : ℕ) → free_of (type_at X j) ≤ base + j

abbrev pub AreOver : (n : ℕ) → List Term → Type 0
AreOver n ts = (j : ℕ) → free_of (term_at ts j) ≤ n

-- ---- environments

open-outside : (base : ℕ) (ts : List Term) → AreOver base ts → IsOpen base (outside ts)
open-outside base ts h depth position =
    let at : free_of (term_at ts position) ≤ base = h position in
    let low = free-lifted (term_at ts position) depth in
    omega arith
  where
    free-lifted : (t : Term) (by : ℕ) → free_of (lift t by 0) ≤ free_of t + by
    free-lifted t by = let is = free_of-lift t by 0 in grind (arith, nat_tests, is)

open-inside : (base : ℕ) → 1 ≤ base → (positions : List ℕ) (level : ℕ) (s : Environment) → IsOpen base s → IsOpen base (inside positions level s)
open-inside base one [] level s h depth position = h depth position
open-inside base one (t ∷ positions) level s h depth position = go (position == t) (open-inside base one positions (level + 2) s h depth position)
  where
    go : (b : Bool) → free_of (inside positions (level + 2) s depth position) ≤ base + depth → free_of (cond b (variable depth level) (inside positions (level + 2) s depth position)) ≤ base + depth
    go true rest = omega arith
    go false rest = rest

open-put_variable : (base : ℕ) (s : Environment) (size depth under n : ℕ) → IsOpen base s → n < base + size + under
    → free_of (cond (nat_lt n under) (Var n) (cond (nat_lt n (size + under)) (s (depth + under) (size + under - (n + 1))) (Var (n - size + depth)))) ≤ base + depth + under
open-put_variable base s size depth under n h lt = go (nat_lt n under) (nat_lt n (size + under)) refl refl
  where
    go : (a b : Bool) → nat_lt n under ≡ a → nat_lt n (size + under) ≡ b → free_of (cond a (Var n) (cond b (s (depth + under) (size + under - (n + 1))) (Var (n - size + depth)))) ≤ base + depth + under
    go true b e d = let low : n < under = grind (arith, nat_tests) in omega arith
    go false true e d = omega (arith, h (depth + under) (size + under - (n + 1)))
    go false false e d = let high : size + under ≤ n = grind (arith, nat_tests) in omega arith

open-put : (base : ℕ) (s : Environment) (size depth under : ℕ) (t : Term) → IsOpen base s → free_of t ≤ base + size + under → free_of (put_under s size depth under t) ≤ base + depth + under
open-put base s size depth under (Var n) h le = open-put_variable base s size depth under n h (omega arith)
open-put base s size depth under (Pi a b) h le =
    omega (arith, open-put base s size depth under a h (omega arith), open-put base s size depth (under + 1) b h (omega arith))
open-put base s size depth under (Lam a b) h le =
    omega (arith, open-put base s size depth under a h (omega arith), open-put base s size depth (under + 1) b h (omega arith))
open-put base s size depth under (App f a) h le =
    omega (arith, open-put base s size depth under f h (omega arith), open-put base s size depth under a h (omega arith))
open-put base s size depth under (Let a t b) h le =
    omega (
      arith,
      open-put base s size depth under a h (omega arith),
      open-put base s size depth under t h (omega arith),
      open-put base s size depth (under + 1) b h (omega arith),
    )
open-put base s size depth under _ h le = omega arith

open-type : (base : ℕ) (X : List Item) (z : Environment) (depth j : ℕ) → HasOpenTypes base X → IsOpen base z → free_of (type_with X z depth j) ≤ base + depth
open-type base X z depth j items h =
    let at : free_of (type_at X j) ≤ base + j = items j in
    omega (arith, open-put base z j depth 0 (type_at X j) h (omega arith))

open-reflexive : (base : ℕ) (X : List Item) (u : Environment) → HasOpenTypes base X → IsOpen base u → IsOpen base (reflexive X u)
open-reflexive base X u items h depth j = omega (arith, open-type base X u depth j items h, h depth j)

open-equation : (base : ℕ) (X : List Item) (w : Lefts) (z e : Environment) (depth j : ℕ) → HasOpenTypes base X → AreOpenLefts base w → IsOpen base z → IsOpen base e → free_of (equation X w z e depth j) ≤ base + depth
open-equation base X w z e depth j items lefts h k = omega (arith, open-type base X z depth j items h, lefts z e h k depth j, h depth j)

-- ---- telescopic J

free-bind : (binder : Binder) (a b : Term) (n : ℕ) → free_of a ≤ n → free_of b ≤ n + 1 → free_of (bind binder a b) ≤ n
free-bind Product a b n h k = omega arith
free-bind Function a b n h k = omega arith

open-over : (base : ℕ) (binder : Binder) (X : List Item) (w : Lefts) (positions : List ℕ) (z e : Environment) (depth : ℕ) (end : Term) → HasOpenTypes base X → AreOpenLefts base w → IsOpen base z → IsOpen base e
    → free_of end ≤ base + depth + 2 * length positions → free_of (equations_over binder X w positions z e depth end) ≤ base + depth
open-over base binder X w [] z e depth end items lefts h k le = omega arith
open-over base binder X w (t ∷ positions) z e depth end items lefts h k le =
    let inner = open-over base binder X w positions z e (depth + 2) end items lefts h k (omega arith) in
    let first = open-equation base X w z e (depth + 1) t items lefts h k in
    free-bind binder (type_with X z depth t) _ (base + depth) (open-type base X z depth t items h)
    (free-bind binder (equation X w z e (depth + 1) t) _ (base + depth + 1) (omega arith) (omega arith))

open-pairs : (base : ℕ) (head : Term) (positions : List ℕ) (z e : Environment) (depth : ℕ) → IsOpen base z → IsOpen base e → free_of head ≤ base + depth → free_of (applied_to_pairs head positions z e depth) ≤ base + depth
open-pairs base head [] z e depth h k le = le
open-pairs base head (t ∷ positions) z e depth h k le =
    let a : free_of (z depth t) ≤ base + depth = h depth t in
    let b : free_of (e depth t) ≤ base + depth = k depth t in
    open-pairs base (App (App head (z depth t)) (e depth t)) positions z e depth h k (omega arith)

open-motive : (base : ℕ) → 1 ≤ base → (X : List Item) (u : Environment) (w : Lefts) (C : Goal) (s : ℕ) (positions : List ℕ) (depth : ℕ) → HasOpenTypes base X → IsOpen base u → AreOpenLefts base w → IsOpenGoal base C
    → free_of (motive X u w C s positions depth) ≤ base + depth
open-motive base one X u w C s positions depth items h lefts goal =
    let z : Environment = inside (s ∷ positions) depth u in
    let e : Environment = inside (s ∷ positions) (depth + 1) (reflexive X u) in
    let open_z : IsOpen base z = open-inside base one (s ∷ positions) depth u h in
    let open_e : IsOpen base e = open-inside base one (s ∷ positions) (depth + 1) (reflexive X u) (open-reflexive base X u items h) in
    let end = goal z e open_z open_e (depth + 2 + 2 * length positions) in
    let inner = open-over base Product X w positions z e (depth + 2) (C z e (depth + 2 + 2 * length positions)) items lefts open_z open_e (omega arith) in
    omega (arith, open-type base X u depth s items h, open-type base X u (depth + 1) s items h, h (depth + 1) s)

open-elimination : (base : ℕ) → 1 ≤ base → (X : List Item) (u : Environment) (w : Lefts) (m : ℕ) (C : Goal) (start : ℕ → Term) (positions : List ℕ) (z e : Environment) (depth : ℕ) → HasOpenTypes base X → IsOpen base u → AreOpenLefts base w
    → IsOpenGoal base C → ((depth : ℕ) → free_of (start depth) ≤ base + depth) → IsOpen base z → IsOpen base e → free_of (telescopic_j X u w m C start positions z e depth) ≤ base + depth
open-elimination base one X u w m C start [] z e depth items h lefts goal from k l = from depth
open-elimination base one X u w m C start (s ∷ positions) z e depth items h lefts goal from k l =
    let z' : Environment = inside positions depth u in
    let e' : Environment = inside positions (depth + 1) (reflexive X u) in
    let open_z : IsOpen base z' = open-inside base one positions depth u h in
    let open_e : IsOpen base e' = open-inside base one positions (depth + 1) (reflexive X u) (open-reflexive base X u items h) in
    let rest = telescopic_j X u w m C start positions z' e' (depth + 2 * length positions) in
    let low = open-elimination base one X u w m C start positions z' e' (depth + 2 * length positions) items h lefts goal from open_z open_e in
    let method = open-over base Function X w positions z' e' depth rest items lefts open_z open_e (omega arith) in
    open-pairs base _ (s ∷ positions) z e depth k l
    (omega (arith, open-type base X u depth s items h, h depth s, open-motive base one X u w C s positions depth items h lefts goal))

-- ---- transports and congruences

open-transport_type : (base : ℕ) (X : List Item) (u : Environment) (j : ℕ) → HasOpenTypes base X → IsOpen base u → IsOpenGoal base (transport_type X u j)
open-transport_type base X u j items h z e k l depth =
    omega (arith, open-type base X u depth j items h, open-type base X z (depth + 1) j items k)

open-transported : (base : ℕ) → 1 ≤ base → (X : List Item) (u : Environment) (w : Lefts) (positions : List ℕ) (j : ℕ) (z e : Environment) (depth : ℕ) → HasOpenTypes base X → IsOpen base u → AreOpenLefts base w → IsOpen base z → IsOpen base e
    → free_of (unless_fixed X u w positions j z e depth) ≤ base + depth
open-transported base one X u w [] j z e depth items h lefts k l = h depth j
open-transported base one X u w (s ∷ positions) j z e depth items h lefts k l =
    let m = greatest_level X (level_at X j) (s ∷ positions) in
    omega (
      arith,
      open-elimination base one X u w m (transport_type X u j) (identity X u j) (s ∷ positions) z e depth items h lefts
          (open-transport_type base X u j items h) (λ d. omega (arith, open-type base X u d j items h)) k l,
      h depth j,
    )

open-lefts : (n base : ℕ) → 1 ≤ base → (X : List Item) (u : Environment) → HasOpenTypes base X → IsOpen base u → AreOpenLefts base (left_below n X u)
open-lefts zero base one X u items h z e k l depth j = h depth j
open-lefts (suc n) base one X u items h z e k l depth j =
    open-transported base one X u (left_below n X u) (dependences X j) j z e depth items h (open-lefts n base one X u items h) k l

open-images : (base : ℕ) (X : List Item) (f : List Term) (z : Environment) → AreOver (base + length X) f → IsOpen base z → IsOpen base (images X f z)
open-images base X f z over h depth j =
    let at : free_of (term_at f j) ≤ base + length X = over j in
    omega (arith, open-put base z (length X) depth 0 (term_at f j) h (omega arith))

open-congruence : (n base : ℕ) → 1 ≤ base → (X Y : List Item) (f : List Term) (u z e : Environment) → HasOpenTypes base X → HasOpenTypes base Y → AreOver (base + length X) f → IsOpen base u → IsOpen base z → IsOpen base e
    → IsOpen base (congruence_below n X Y f u z e)
open-congruence zero base one X Y f u z e from to over h k l depth j = open-reflexive base Y (images X f u) to (open-images base X f u over h) depth j
open-congruence (suc n) base one X Y f u z e from to over h k l depth j =
    open-elimination base one X u (left_sides X u) (common_level X Y)
    (λ (z : Environment) (e : Environment) (depth : ℕ). image_equation X Y f u z (congruence_below n X Y f u z e) depth j)
    (λ (depth : ℕ). reflexive Y (images X f u) depth j) (positions_of X) z e depth from h (open-lefts (length X) base one X u from h)
    (λ z e k l depth. open-equation base Y (left_sides Y (images X f u)) (images X f z) (congruence_below n X Y f u z e) depth j to
    (open-lefts (length Y) base one Y (images X f u) to (open-images base X f u over h))
    (open-images base X f z over k) (open-congruence n base one X Y f u z e from to over h k l))
    (λ depth. open-reflexive base Y (images X f u) to (open-images base X f u over h) depth j) k l

-- ---- lists

free-positions : (binder : Binder) (base : ℕ) (f : ℕ → Term) (j count : ℕ) (end : Term) → ((i : ℕ) → free_of (f i) ≤ base + i) → free_of end ≤ base + j + count → free_of (closed_over binder (each_position f j count) end) ≤ base + j
free-positions Product base f j zero end h le = omega arith
free-positions Function base f j zero end h le = omega arith
free-positions Product base f j (suc count) end h le = omega (arith, h j, free-positions Product base f (j + 1) count end h (omega arith))
free-positions Function base f j (suc count) end h le = omega (arith, h j, free-positions Function base f (j + 1) count end h (omega arith))

free-applied : (n : ℕ) (head : Term) (f : ℕ → Term) (j count : ℕ) → free_of head ≤ n → ((i : ℕ) → free_of (f i) ≤ n) → free_of (applied head (each_position f j count)) ≤ n
free-applied n head f j zero h k = h
free-applied n head f j (suc count) h k = let first = k j in free-applied n (App head (f j)) f (j + 1) count (omega arith) k

pub free-equations : (binder : Binder) (base : ℕ) (X : List Item) (left right : List Term) (end : Term) → 1 ≤ base → HasOpenTypes base X → AreOver base left → AreOver base right
    → free_of end ≤ base + length X → free_of (closed_over binder (equations X left right) end) ≤ base
free-equations binder base X left right end one items l r le =
    let u = open-outside base left l in
    let z = open-outside base right r in
    let bound : IsOpen base as_bound = λ depth j. omega arith in
    omega (
      arith,
      free-positions binder base (equation_behind (length X) X left right) 0 (length X) end
          (λ j. open-equation base X (left_below (length X) X (outside left)) (outside right) as_bound j j items (open-lefts (length X) base one X (outside left) items u) z bound)
          (omega arith),
    )

pub free-congruences : (base : ℕ) (X Y : List Item) (f left right eqs : List Term) (head : Term) → 1 ≤ base → HasOpenTypes base X → HasOpenTypes base Y → AreOver (base + length X) f → AreOver base left → AreOver base right → AreOver base eqs
    → free_of head ≤ base → free_of (applied head (congruences X Y f left right eqs)) ≤ base
free-congruences base X Y f left right eqs head one from to over l r e le =
    free-applied base head (congruence_below (length Y) X Y f (outside left) (outside right) (outside eqs) 0) 0 (length Y) le
    (λ j. omega (arith, open-congruence (length Y) base one X Y f (outside left) (outside right) (outside eqs) from to over (open-outside base left l) (open-outside base right r) (open-outside base eqs e) 0 j))

pub free-reflexivities : (base : ℕ) (X : List Item) (terms : List Term) (head : Term) → HasOpenTypes base X → AreOver base terms → free_of head ≤ base → free_of (applied head (reflexivities X terms)) ≤ base
free-reflexivities base X terms head items over le =
    free-applied base head (reflexive X (outside terms) 0) 0 (length X) le
    (λ j. omega (arith, open-reflexive base X (outside terms) items (open-outside base terms over) 0 j))
