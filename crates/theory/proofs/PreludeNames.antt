-- The names of the prelude are all different.
use Rattle.std.proofs.Common.{◌≡◌, ◌≢◌, ℕ, zero, suc, ◌+◌, ◌-◌, ◌*◌, ◌/◌, ◌%◌, ◌<◌, Bool, true, false, cond, nat_lt, ◌==◌, ◌&&◌, ◌||◌, List, [], ◌∷◌, ◌++◌, get_or, refl, All, AllPairs, flat_map, arith, ap, sym, codes}
use Rattle.std.proofs.lemmas.List.{append_cancel_left}
use Rattle.theory.proofs.Lists.{only, both, All-flat_map, AllPairs-append}
use Rattle.std.specs.List.{range_with_len}
use Rattle.std.proofs.lemmas.List.Elements.{All-cons, All-append}
use Rattle.std.proofs.lemmas.List.Kept.{AllPairs-cons}
use Rattle.theory.specs.Prelude.{level_text}

-- the number that the digits of a text spell
read : List ℕ → ℕ
read [] = 0
read (d ∷ []) = d - 48
read (d ∷ e ∷ rest) = (d - 48) * 10 + (e - 48)

read-level_text : (i : ℕ) → read (level_text i) ≡ i
unfolding read
read-level_text i = go (nat_lt i 10)
  where
    go : (b : Bool) → read (cond b ((48 + i) ∷ []) ((48 + i / 10) ∷ (48 + i % 10) ∷ [])) ≡ i
    go true = omega arith
    go false = omega arith

pub same_level : (i j : ℕ) → level_text i ≡ level_text j → i ≡ j
same_level i j e = cc (read-level_text i, read-level_text j, ap read e)

-- the names of a family and of its one constructor at a level
abbrev pub named : List ℕ → List ℕ → ℕ → List (List ℕ)
named p q i = (p ++ level_text i) ∷ (q ++ level_text i) ∷ []

other_level : (p : List ℕ) (i j : ℕ) → i < j → p ++ level_text i ≢ p ++ level_text j
other_level p i j l e = let s = same_level i j (append_cancel_left p (level_text i) (level_text j) e) in omega arith

-- two prefixes that no level makes equal
abbrev pub AreApart : List ℕ → List ℕ → Type 0
AreApart p q = (i j : ℕ) → p ++ level_text i ≢ q ++ level_text j

distinct_names : (p q : List ℕ) → AreApart p q → (from n : ℕ) → AllPairs (λ x y. x ≢ y) (flat_map (named p q) (range_with_len from n))
distinct_names p q apart from zero = λ i j d l w. grind arith
distinct_names p q apart from (suc n) =
    let R : List ℕ → List ℕ → Type 0 = λ x y. x ≢ y in
    let P = p ++ level_text from in
    let Q = q ++ level_text from in
    let rest = flat_map (named p q) (range_with_len (from + 1) n) in
    AllPairs-cons R P (Q ∷ rest)
    (All-cons (R P) Q rest (apart from from) (All-flat_map (R P) (named p q) (from + 1) n
    (λ i l u. both (R P) (p ++ level_text i) (q ++ level_text i) (other_level p from i (omega arith)) (apart from i))))
    (AllPairs-cons R Q rest (All-flat_map (R Q) (named p q) (from + 1) n
    (λ i l u. both (R Q) (p ++ level_text i) (q ++ level_text i) (λ e. apart i from (sym e)) (other_level q from i (omega arith))))
    (distinct_names p q apart (from + 1) n))

-- two prefixes that differ in their first byte
apart : (a b : ℕ) (p q : List ℕ) → a ≢ b → AreApart (a ∷ p) (b ∷ q)
apart a b p q differ i j e = differ (ap (λ s. get_or s 0 0) e)

-- which of the four lists of the prelude a name is from, by its first two bytes
list_of : List ℕ → ℕ
list_of s =
    let first = get_or s 0 0 in
    let second = get_or s 1 0 in
    cond (first == 69 && second == 109) 0 (cond (first == 69 || first == 114) 1 (cond (first == 85 || first == 117) 2 3))

abbrev pub names_at : List ℕ → List ℕ → ℕ → List (List ℕ)
names_at p q n = flat_map (named p q) (range_with_len 0 n)

from_list : (p q : List ℕ) (l n : ℕ) → ((i : ℕ) → list_of (p ++ level_text i) ≡ l) → ((i : ℕ) → list_of (q ++ level_text i) ≡ l)
    → All (λ s. list_of s ≡ l) (names_at p q n)
from_list p q l n hp hq = All-flat_map (λ s. list_of s ≡ l) (named p q) 0 n (λ i _ _. both (λ s. list_of s ≡ l) (p ++ level_text i) (q ++ level_text i) (hp i) (hq i))

-- names of one list before names of later ones
joined : (l : ℕ) (xs ys : List (List ℕ)) → All (λ s. list_of s ≡ l) xs → All (λ s. l < list_of s) ys
    → AllPairs (λ x y. x ≢ y) xs → AllPairs (λ x y. x ≢ y) ys → AllPairs (λ x y. x ≢ y) (xs ++ ys)
joined l xs ys = AllPairs-append (λ x y. x ≢ y) (λ s. list_of s ≡ l) (λ s. l < list_of s) xs ys (λ x y b a e. let same : list_of x ≡ list_of y = ap list_of e in omega arith)

later : (l m : ℕ) (xs : List (List ℕ)) → l < m → All (λ s. list_of s ≡ m) xs → All (λ s. l < list_of s) xs
later l m xs lt h k d w = let e = h k d w in omega arith

pub all_different : (n : ℕ) → AllPairs (λ x y. x ≢ y)
    ((codes "Empty" ∷ []) ++ (names_at (codes "Eq.") (codes "refl.") n ++ (names_at (codes "Unit.") (codes "unit.") n ++ names_at (codes "Pair.") (codes "pair.") n)))
unfolding list_of
all_different n =
    let eqs = names_at (codes "Eq.") (codes "refl.") n in
    let units = names_at (codes "Unit.") (codes "unit.") n in
    let pairs = names_at (codes "Pair.") (codes "pair.") n in
    let eqs_from = from_list (codes "Eq.") (codes "refl.") 1 n (λ i. refl) (λ i. refl) in
    let units_from = from_list (codes "Unit.") (codes "unit.") 2 n (λ i. refl) (λ i. refl) in
    let pairs_from = from_list (codes "Pair.") (codes "pair.") 3 n (λ i. refl) (λ i. refl) in
    let behind : (l : ℕ) → l < 2 → All (λ s. l < list_of s) (units ++ pairs) =
    λ l h. All-append (λ s. l < list_of s) units pairs (later l 2 units h units_from) (later l 3 pairs (omega arith) pairs_from) in
    joined 0 (codes "Empty" ∷ []) (eqs ++ (units ++ pairs)) (only (λ s. list_of s ≡ 0) (codes "Empty") refl)
    (All-append (λ s. 0 < list_of s) eqs (units ++ pairs) (later 0 1 eqs (omega arith) eqs_from) (behind 0 (omega arith)))
    (λ i j d l w. omega arith)
    (joined 1 eqs (units ++ pairs) eqs_from (behind 1 (omega arith)) (distinct_names (codes "Eq.") (codes "refl.") (apart 69 114 (codes "q.") (codes "efl.") (omega arith)) 0 n)
    (joined 2 units pairs units_from (later 2 3 pairs (omega arith) pairs_from)
    (distinct_names (codes "Unit.") (codes "unit.") (apart 85 117 (codes "nit.") (codes "nit.") (omega arith)) 0 n)
    (distinct_names (codes "Pair.") (codes "pair.") (apart 80 112 (codes "air.") (codes "air.") (omega arith)) 0 n)))
