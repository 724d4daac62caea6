-- The list of pairs has each pair, by the first position and then by the second one.
use Rattle.std.proofs.Common.{◌≡◌, ◌⊎◌, inl, inr, ℕ, zero, suc, ◌+◌, ◌<◌, ◌≤◌, Option, Some, None, option_map, List, [], ◌∷◌, ◌++◌, flat_map, length, refl, sym, ap, ◌∙◌, subst, arith}
use Rattle.std.specs.List.{Contains, range_with_len}
use Rattle.std.specs.Prelude.{◌↔◌, All, AllPairs, get_or}
use Rattle.std.proofs.lemmas.List.Elements.{All-nil, All-cons, All-weaker}
use Rattle.std.proofs.lemmas.Option.{none-some, slice_get_within}
use Rattle.theory.specs.Terms.{Term}
use Rattle.theory.specs.Signatures.{Signature}
use Rattle.theory.proofs.Lists.{All-flat_map, AllPairs-append, some_is}
use Rattle.tree_translation.specs.structural_rec.Orders.{recursive_positions}
use Rattle.tree_translation.specs.structural_rec.Positions.{Admission, admission}
use Rattle.tree_translation.proofs.structural_rec.AdmittingPositions.{admission-decides}
use Rattle.lex_recursion.specs.Following.{following}
use Rattle.lex_recursion.specs.Pairs.{IsPair, Pair, Precedes, if_some, pair_behind, pair_with, pairs, pairs_from}
use Rattle.lex_recursion.proofs.FollowingPositions.{following-decides}

-- ---- elements of lists

abbrev pub Has : {A : Type 0} (x : A) → List A → Type 0
Has x [] = ⊥
Has x (y ∷ xs) = (y ≡ x) ⊎ Has x xs

pub has-left : {A : Type 0} (x : A) (xs ys : List A) → Has x xs → Has x (xs ++ ys)
has-left x [] ys h = absurd h
has-left x (y ∷ xs) ys (inl e) = inl e
has-left x (y ∷ xs) ys (inr h) = inr (has-left x xs ys h)

pub has-right : {A : Type 0} (x : A) (xs ys : List A) → Has x ys → Has x (xs ++ ys)
has-right x [] ys h = h
has-right x (y ∷ xs) ys h = inr (has-right x xs ys h)

pub has-cases : {A : Type 0} (x : A) (xs ys : List A) → Has x (xs ++ ys) → Has x xs ⊎ Has x ys
has-cases x [] ys h = inr h
has-cases x (y ∷ xs) ys (inl e) = inl (inl e)
has-cases x (y ∷ xs) ys (inr h) = elim (has-cases x xs ys h) [ inl front ↦ inl (inr front) | inr back ↦ inr back ]

contains-has : {A : Type 0} (x : A) (xs : List A) (i : ℕ) → i < length xs → get_or xs i x ≡ x → Has x xs
contains-has x [] i lt e = absurd (omega arith)
contains-has x (y ∷ xs) zero lt e = inl e
contains-has x (y ∷ xs) (suc i) lt e = inr (contains-has x xs i (omega arith) e)

has-contains : {A : Type 0} (x : A) (xs : List A) → Has x xs → Contains xs x
has-contains x [] h = absurd h
has-contains x (y ∷ xs) (inl e) = (0, omega arith, e)
has-contains x (y ∷ xs) (inr h) = let rest = has-contains x xs h in let lt = rest.1 in (suc rest.0, omega arith, rest.2)

-- an element of what a list of numbers gives
record IsFrom {A : Type 0} (f : ℕ → List A) (from count : ℕ) (x : A) : Type 0 where
  at : ℕ
  low : from ≤ at
  high : at < from + count
  there : Has x (f at)

flat-tells : {A : Type 0} (f : ℕ → List A) (from count : ℕ) (x : A) → Has x (flat_map f (range_with_len from count)) → IsFrom f from count x
flat-tells f from zero x h = absurd h
flat-tells f from (suc count) x h = elim (has-cases x (f from) (flat_map f (range_with_len (from + 1) count)) h) [
  | inl first ↦ record { at = from; low = omega arith; high = omega arith; there = first }
  | inr rest ↦ (
      let is = flat-tells f (from + 1) count x rest in
      let low = is.low in
      let high = is.high in
      record { at = is.at; low = omega arith; high = omega arith; there = is.there }
      )
]

flat-found : {A : Type 0} (f : ℕ → List A) (from count i : ℕ) (x : A) → from ≤ i → i < from + count → Has x (f i) → Has x (flat_map f (range_with_len from count))
flat-found f from zero i x low high h = absurd (omega arith)
flat-found f from (suc count) i x low high h = elim (first-or-later from i low) [
  | inl same ↦ has-left x (f from) (flat_map f (range_with_len (from + 1) count)) (subst (λ n. Has x (f n)) (sym same) h)
  | inr more ↦ has-right x (f from) (flat_map f (range_with_len (from + 1) count)) (flat-found f (from + 1) count i x more (omega arith) h)
]
  where
    first-or-later : (a b : ℕ) → a ≤ b → (a ≡ b) ⊎ (a + 1 ≤ b)
    first-or-later zero zero le = inl refl
    first-or-later zero (suc b) le = inr (omega arith)
    first-or-later (suc a) zero le = absurd (omega arith)
    first-or-later (suc a) (suc b) le = elim (first-or-later a b (omega arith)) [ inl same ↦ inl (ap suc same) | inr more ↦ inr (omega arith) ]

-- ---- each pair

has-one : {A : Type 0} (x : A) (o : Option A) → Has x (if_some o) → o ≡ Some x
has-one x None h = absurd h
has-one x (Some y) (inl e) = ap (λ z. Some z) e
has-one x (Some y) (inr h) = absurd h

behind-tells : (S : Signature) (tele : List Term) (j : ℕ) (a : Admission) (k : ℕ) (p : Pair) → admission S tele j ≡ Some a
    → (o : Option Admission) → following S tele (recursive_positions j a) k ≡ o → option_map (pair_with j a k) o ≡ Some p → IsPair S tele p
behind-tells S tele j a k p at None e h = absurd (none-some p h)
behind-tells S tele j a k p at (Some b) e h =
    subst (IsPair S tele) (some_is h)
    (record { admits = (admission-decides S tele j a).0 at; follows = (following-decides S tele (recursive_positions j a) k b).0 e })

from-tells : (S : Signature) (tele : List Term) (j : ℕ) (p : Pair) (o : Option Admission) → admission S tele j ≡ o → Has p (pairs_from S tele j o)
    → IsPair S tele p
from-tells S tele j p None at h = absurd h
from-tells S tele j p (Some a) at h =
    let is = flat-tells (λ k. if_some (pair_behind S tele j a k)) 0 (length tele) p h in
    behind-tells S tele j a is.at p at (following S tele (recursive_positions j a) is.at) refl (has-one p (pair_behind S tele j a is.at) is.there)

pub pairs-tells : (S : Signature) (tele : List Term) (p : Pair) → Has p (pairs S tele) → IsPair S tele p
pairs-tells S tele p h =
    let is = flat-tells (λ j. pairs_from S tele j (admission S tele j)) 0 (length tele) p h in
    from-tells S tele is.at p (admission S tele is.at) refl is.there

pub pairs-found : (S : Signature) (tele : List Term) (p : Pair) → IsPair S tele p → Has p (pairs S tele)
pairs-found S tele p is =
    flat-found (λ j. pairs_from S tele j (admission S tele j)) 0 (length tele) p.first p (omega arith)
    (let lt = slice_get_within tele p.first _ is.admits.type in omega arith)
    (subst (λ o. Has p (pairs_from S tele p.first o)) (sym ((admission-decides S tele p.first p.outer).1 is.admits)) seconds)
  where
    seconds : Has p (pairs_from S tele p.first (Some p.outer))
    seconds =
        flat-found (λ k. if_some (pair_behind S tele p.first p.outer k)) 0 (length tele) p.second p (omega arith)
        (let lt = slice_get_within tele p.second _ is.follows.type in omega arith)
        (subst (λ o. Has p (if_some (option_map (pair_with p.first p.outer p.second) o)))
        (sym ((following-decides S tele (recursive_positions p.first p.outer) p.second p.inner).1 is.follows)) (inl refl))

pub pairs-are-these : (S : Signature) (tele : List Term) (p : Pair) → Contains (pairs S tele) p ↔ IsPair S tele p
pairs-are-these S tele p = (
  λ h. pairs-tells S tele p (contains-has p (pairs S tele) h.0 h.1 h.2),
  λ is. has-contains p (pairs S tele) (pairs-found S tele p is),
)

-- ---- their order

none-pairs : {A : Type 0} (R : A → A → Type 0) → AllPairs R []
none-pairs R i k d lt within = absurd (omega arith)

one-pairs : {A : Type 0} (R : A → A → Type 0) (o : Option A) → AllPairs R (if_some o)
one-pairs R None i k d lt within = absurd (omega arith)
one-pairs R (Some x) i k d lt within = absurd (omega arith)

-- at j and k; with j first and a second position after k; with a first position j, and with one after j
abbrev AreAt : (j k : ℕ) → Pair → Type 0
AreAt j k p = (p.first ≡ j) × (p.second ≡ k)

abbrev AreAfter : (j k : ℕ) → Pair → Type 0
AreAfter j k p = (p.first ≡ j) × (k < p.second)

abbrev BeginsAt : (j : ℕ) → Pair → Type 0
BeginsAt j p = p.first ≡ j

abbrev BeginsAfter : (j : ℕ) → Pair → Type 0
BeginsAfter j p = j < p.first

behind-all : (S : Signature) (tele : List Term) (j : ℕ) (a : Admission) (k : ℕ) → All (AreAt j k) (if_some (pair_behind S tele j a k))
behind-all S tele j a k = by (following S tele (recursive_positions j a) k)
  where
    by : (o : Option Admission) → All (AreAt j k) (if_some (option_map (pair_with j a k) o))
    by None = All-nil (AreAt j k)
    by (Some b) = All-cons (AreAt j k) (pair_with j a k b) [] (refl, refl) (All-nil (AreAt j k))

behind-ascend : (S : Signature) (tele : List Term) (j : ℕ) (a : Admission) (from count : ℕ)
    → AllPairs Precedes (flat_map (λ k. if_some (pair_behind S tele j a k)) (range_with_len from count))
behind-ascend S tele j a from zero = none-pairs Precedes
behind-ascend S tele j a from (suc count) =
    AllPairs-append Precedes (AreAt j from) (AreAfter j from)
    (if_some (pair_behind S tele j a from)) (flat_map (λ k. if_some (pair_behind S tele j a k)) (range_with_len (from + 1) count))
    (λ p q one more. inr (one.0 ∙ sym more.0, (let at : p.second ≡ from = one.1 in let lt : from < q.second = more.1 in omega arith)))
    (behind-all S tele j a from)
    (All-flat_map (AreAfter j from) (λ k. if_some (pair_behind S tele j a k)) (from + 1) count
    (λ k low high. All-weaker (AreAt j k) (AreAfter j from) (λ p is. (is.0, (let at : p.second ≡ k = is.1 in omega arith))) (if_some (pair_behind S tele j a k)) (behind-all S tele j a k)))
    (one-pairs Precedes (pair_behind S tele j a from)) (behind-ascend S tele j a (from + 1) count)

from-all : (S : Signature) (tele : List Term) (j : ℕ) (o : Option Admission) → All (BeginsAt j) (pairs_from S tele j o)
from-all S tele j None = All-nil (BeginsAt j)
from-all S tele j (Some a) =
    All-flat_map (BeginsAt j) (λ k. if_some (pair_behind S tele j a k)) 0 (length tele)
    (λ k low high. All-weaker (AreAt j k) (BeginsAt j) (λ p is. is.0) (if_some (pair_behind S tele j a k)) (behind-all S tele j a k))

from-ascend : (S : Signature) (tele : List Term) (j : ℕ) (o : Option Admission) → AllPairs Precedes (pairs_from S tele j o)
from-ascend S tele j None = none-pairs Precedes
from-ascend S tele j (Some a) = behind-ascend S tele j a 0 (length tele)

all-ascend : (S : Signature) (tele : List Term) (from count : ℕ) → AllPairs Precedes (flat_map (λ j. pairs_from S tele j (admission S tele j)) (range_with_len from count))
all-ascend S tele from zero = none-pairs Precedes
all-ascend S tele from (suc count) =
    AllPairs-append Precedes (BeginsAt from) (BeginsAfter from)
    (pairs_from S tele from (admission S tele from)) (flat_map (λ j. pairs_from S tele j (admission S tele j)) (range_with_len (from + 1) count))
    (λ p q one more. inl (let at : p.first ≡ from = one in let lt : from < q.first = more in omega arith))
    (from-all S tele from (admission S tele from))
    (All-flat_map (BeginsAfter from) (λ j. pairs_from S tele j (admission S tele j)) (from + 1) count
    (λ j low high. All-weaker (BeginsAt j) (BeginsAfter from) (λ p is. let at : p.first ≡ j = is in omega arith) (pairs_from S tele j (admission S tele j)) (from-all S tele j (admission S tele j))))
    (from-ascend S tele from (admission S tele from)) (all-ascend S tele (from + 1) count)

pub pairs-ascend : (S : Signature) (tele : List Term) → AllPairs Precedes (pairs S tele)
pairs-ascend S tele = all-ascend S tele 0 (length tele)
