-- Lists: entries by number, all elements, all pairs.
use Rattle.std.proofs.Common.{◌≡◌, ◌⊎◌, ℕ, zero, suc, ◌+◌, ◌<◌, ◌≤◌, List, [], ◌∷◌, ◌++◌, length, take, drop, slice_get, get_or, Some, refl, ap, ◌∙◌, inl, inr, unwrap_or, All, AllPairs, flat_map, arith}
use Rattle.std.specs.List.{range_with_len}
use Rattle.std.proofs.lemmas.Option.{none-some, slice_get_within}
use Rattle.std.proofs.lemmas.List.Elements.{All-cons, All-nil, All-append}
use Rattle.std.proofs.lemmas.List.Kept.{AllPairs-cons}

pub only : {X : Type 0} (P : X → Type 0) (x : X) → P x → All P (x ∷ [])
only P x p = All-cons P x [] p (All-nil P)

pub both : {X : Type 0} (P : X → Type 0) (x y : X) → P x → P y → All P (x ∷ y ∷ [])
both P x y p q = All-cons P x (y ∷ []) p (only P y q)

-- entry number `length xs` of a list with one element more
pub slice_get-last : {X : Type 0} (xs : List X) (x : X) → slice_get (xs ++ x ∷ []) (length xs) ≡ Some x
slice_get-last [] x = refl
slice_get-last (y ∷ xs) x = slice_get-last xs x

pub slice_get-append : {X : Type 0} (xs ys : List X) (n : ℕ) → n < length xs → slice_get (xs ++ ys) n ≡ slice_get xs n
slice_get-append [] ys n h = grind arith
slice_get-append (x ∷ xs) ys zero h = refl
slice_get-append (x ∷ xs) ys (suc n) h = slice_get-append xs ys n (omega arith)

pub slice_get-append_right : {X : Type 0} (xs ys : List X) (n : ℕ) → slice_get (xs ++ ys) (length xs + n) ≡ slice_get ys n
slice_get-append_right [] ys n = let e : zero + n ≡ n = omega arith in rw e
slice_get-append_right (x ∷ xs) ys n = let e : suc (length xs) + n ≡ suc (length xs + n) = omega arith in rw e (slice_get-append_right xs ys n)

pub All-tail : {X : Type 0} (P : X → Type 0) (x : X) (xs : List X) → All P (x ∷ xs) → All P xs
All-tail P x xs h k d w = h (suc k) d (omega arith)

-- each element of xs is before the split, and each of ys after it
pub AllPairs-append : {X : Type 0} (R : X → X → Type 0) (B A : X → Type 0) (xs ys : List X) → ((x y : X) → B x → A y → R x y)
    → All B xs → All A ys → AllPairs R xs → AllPairs R ys → AllPairs R (xs ++ ys)
AllPairs-append R B A [] ys across b a r s = s
AllPairs-append R B A (x ∷ xs) ys across b a r s =
    let x_before : B x = b 0 x (omega arith) in
    AllPairs-cons R x (xs ++ ys)
    (All-append (R x) xs ys (λ k d w. r 0 (suc k) d (omega arith) (omega arith)) (λ k d w. across x (get_or ys k d) x_before (a k d w)))
    (AllPairs-append R B A xs ys across (All-tail B x xs b) a (λ i j d l w. r (suc i) (suc j) d (omega arith) (omega arith)) s)

-- a property of all elements of each piece is one of all pieces in a row
pub All-flat_map : {Y : Type 0} (P : Y → Type 0) (pieces : ℕ → List Y) (from n : ℕ) → ((i : ℕ) → from ≤ i → i < from + n → All P (pieces i))
    → All P (flat_map pieces (range_with_len from n))
All-flat_map P pieces from zero h = All-nil P
All-flat_map P pieces from (suc n) h =
    All-append P (pieces from) (flat_map pieces (range_with_len (from + 1) n)) (h from (omega arith) (omega arith))
    (All-flat_map P pieces (from + 1) n (λ i l u. h i (omega arith) (omega arith)))

-- two options that are the same hold the same
pub some_is : {X : Type 0} {x y : X} → Some x ≡ Some y → x ≡ y
some_is {x = x} e = ap (λ o. unwrap_or o x) e

-- an element keeps its number in a longer list
pub slice_get-longer : {X : Type 0} (xs ys : List X) (n : ℕ) (x : X) → slice_get xs n ≡ Some x → slice_get (xs ++ ys) n ≡ Some x
slice_get-longer xs ys n x at = slice_get-append xs ys n (slice_get_within xs n x at) ∙ at

-- an element of a list with one more is in the list or is that one
pub slice_get-pushed : {X : Type 0} (xs : List X) (y : X) (n : ℕ) (x : X) → slice_get (xs ++ y ∷ []) n ≡ Some x → (slice_get xs n ≡ Some x) ⊎ ((n ≡ length xs) × (y ≡ x))
slice_get-pushed [] y zero x at = inr (refl, some_is at)
slice_get-pushed [] y (suc n) x at = absurd (none-some x at)
slice_get-pushed (z ∷ xs) y zero x at = inl at
slice_get-pushed (z ∷ xs) y (suc n) x at = elim (slice_get-pushed xs y n x at) [
  | inl before ↦ inl before
  | inr (place, same) ↦ inr (ap suc place, same)
]

-- an element of the first n is in the whole list
pub slice_get-take : {X : Type 0} (n : ℕ) (xs : List X) (m : ℕ) (x : X) → slice_get (take n xs) m ≡ Some x → slice_get xs m ≡ Some x
slice_get-take zero xs m x at = absurd (none-some x at)
slice_get-take (suc n) [] m x at = at
slice_get-take (suc n) (y ∷ xs) zero x at = at
slice_get-take (suc n) (y ∷ xs) (suc m) x at = slice_get-take n xs m x at

-- a list is the elements before an element, the element and those after it
pub split_at : {X : Type 0} (xs : List X) (n : ℕ) (x : X) → slice_get xs n ≡ Some x → xs ≡ (take n xs ++ x ∷ []) ++ drop (suc n) xs
split_at [] n x at = absurd (none-some x at)
split_at (y ∷ xs) zero x at = ap (λ z. z ∷ xs) (some_is at)
split_at (y ∷ xs) (suc n) x at = ap (λ zs. y ∷ zs) (split_at xs n x at)
