-- The names of eliminators and of K are taken apart as they are put together.
use Rattle.std.proofs.Common.{◌≡◌, ℕ, suc, ◌+◌, ◌-◌, ◌/◌, ◌%◌, ◌<◌, ◌≤◌, Bool, true, false, List, [], ◌∷◌, ◌++◌, length, drop, take, refl, sym, ap, ap₂, ◌∙◌, append_assoc, arith}
use Rattle.std.specs.Prelude.{not, ◌==◌, ◌&&◌, nat_le, nat_lt, if◌then◌else◌, Option, Some, None, slice_index, bytes_eq, decimal, cond}
use Rattle.std.proofs.lemmas.Bool.{and_from}
use Rattle.std.proofs.lemmas.Bool.Decides.{nat_tests}
use Rattle.std.proofs.lemmas.Fmt.{decimal_digit, decimal_step}
use Rattle.std.proofs.lemmas.List.{length-append}
use Rattle.std.proofs.lemmas.Slice.Eq.{bytes_eq-Decides}
use Rattle.theory.specs.PreludeFamilies.{level_text}
use Rattle.core_text.specs.Reading.{is_digit, with_digit}
use Rattle.core_text.specs.SymbolLookup.{number_at_end, before_end}
use Rattle.core_text.proofs.NumbersBack.{drop-word}
use Rattle.core_text.proofs.TermsBack.{take-word}

-- ---- a word at the end

pub word-at-end : (word front : List ℕ) → before_end word (front ++ word) ≡ Some front
word-at-end word front =
    ap (λ n. if bytes_eq (drop n (front ++ word)) word then Some (take n (front ++ word)) else None) place
    ∙ (ap₂ (λ a b. if bytes_eq a word then Some b else None) (drop-word front word) (take-word front word)
    ∙ ap (λ b. if b then Some front else None) ((bytes_eq-Decides word word).1 refl))
  where
    place : length (front ++ word) - length word ≡ length front
    place = omega (arith, length-append front word)

-- ---- a number at the end

index-at : (xs : List ℕ) (y : ℕ) (ys : List ℕ) → slice_index (xs ++ y ∷ ys) (length xs) ≡ y
index-at [] y ys = refl
index-at (x ∷ xs) y ys = index-at xs y ys

digit-true : (v : ℕ) → v < 10 → is_digit (48 + v) ≡ true
digit-true v small = and_from (nat_le 48 (48 + v)) (nat_le (48 + v) 57) (grind (arith, nat_tests)) (grind (arith, nat_tests))

-- the number by the last two bytes, which come after the first a and the first b ones
abbrev by_ends : List ℕ → ℕ → ℕ → ℕ → ℕ → ℕ → Option (List ℕ × ℕ)
by_ends bytes n a b other last =
    if not (is_digit last) then None
    else (if nat_le 2 n && (is_digit other && not (other == 48)) then Some (take a bytes, with_digit (other - 48) last)
    else Some (take b bytes, last - 48))

-- front ends in no digit
module _ (before : List ℕ) (o : ℕ) (no_digit : is_digit o ≡ false) where
  one-digit : (d : ℕ) → d < 10 → number_at_end ((before ++ o ∷ []) ++ (48 + d) ∷ []) ≡ Some (before ++ o ∷ [], d)
  one-digit d small =
      let whole = (before ++ o ∷ []) ++ (48 + d) ∷ [] in
      let n = length whole in
      let long : n ≡ suc (suc (length before)) = omega (arith, length-append (before ++ o ∷ []) ((48 + d) ∷ []), length-append before (o ∷ [])) in
      let wide : length (before ++ o ∷ []) ≡ suc (length before) = omega (arith, length-append before (o ∷ [])) in
      let place : n - 1 ≡ length (before ++ o ∷ []) = omega (arith, long, wide) in
      let previous : n - 2 ≡ length before = omega (arith, long) in
      let last : slice_index whole (n - 1) ≡ 48 + d = ap (slice_index whole) place ∙ index-at (before ++ o ∷ []) (48 + d) [] in
      let other : slice_index whole (n - 2) ≡ o = ap₂ (λ w k. slice_index w k) (append_assoc before (o ∷ []) ((48 + d) ∷ [])) previous ∙ index-at before o ((48 + d) ∷ []) in
      ap₂ (λ x y. by_ends whole n (n - 2) (n - 1) x y) other last
      ∙ (ap (λ b. if not b then None else (if nat_le 2 n && (is_digit o && not (o == 48)) then Some (take (n - 2) whole, with_digit (o - 48) (48 + d)) else Some (take (n - 1) whole, (48 + d) - 48))) (digit-true d small)
      ∙ (ap (λ b. if nat_le 2 n && (b && not (o == 48)) then Some (take (n - 2) whole, with_digit (o - 48) (48 + d)) else Some (take (n - 1) whole, (48 + d) - 48)) no_digit
      ∙ (and-no (Some (take (n - 2) whole, with_digit (o - 48) (48 + d))) (Some (take (n - 1) whole, (48 + d) - 48)) (nat_le 2 n)
      ∙ ap₂ (λ a v. Some (a, v)) (ap (λ k. take k whole) place ∙ take-word (before ++ o ∷ []) ((48 + d) ∷ [])) (value d))))
    where
      and-no : {A : Type 0} (x y : A) (b : Bool) → (if b && false then x else y) ≡ y
      and-no x y true = refl
      and-no x y false = refl

      value : (d : ℕ) → (48 + d) - 48 ≡ d
      value d = omega arith

two-digits : (front : List ℕ) (m : ℕ) → 10 ≤ m → m < 100 → number_at_end (front ++ (48 + m / 10) ∷ (48 + m % 10) ∷ []) ≡ Some (front, m)
two-digits front m large small =
    let q = m / 10 in
    let d = m % 10 in
    let whole = front ++ (48 + q) ∷ (48 + d) ∷ [] in
    let n = length whole in
    let long : n ≡ suc (suc (length front)) = omega (arith, length-append front ((48 + q) ∷ (48 + d) ∷ [])) in
    let previous : n - 2 ≡ length front = omega (arith, long) in
    let wide : length (front ++ (48 + q) ∷ []) ≡ suc (length front) = omega (arith, length-append front ((48 + q) ∷ [])) in
    let place : n - 1 ≡ length (front ++ (48 + q) ∷ []) = omega (arith, long, wide) in
    let last : slice_index whole (n - 1) ≡ 48 + d = ap₂ (λ w k. slice_index w k) (sym (append_assoc front ((48 + q) ∷ []) ((48 + d) ∷ []))) place ∙ index-at (front ++ (48 + q) ∷ []) (48 + d) [] in
    let other : slice_index whole (n - 2) ≡ 48 + q = ap (slice_index whole) previous ∙ index-at front (48 + q) ((48 + d) ∷ []) in
    let long_enough : nat_le 2 n ≡ true = grind (arith, nat_tests) in
    let some : not (48 + q == 48) ≡ true = grind (arith, nat_tests) in
    let so : (nat_le 2 n && (is_digit (48 + q) && not (48 + q == 48))) ≡ true = and_from (nat_le 2 n) (is_digit (48 + q) && not (48 + q == 48)) long_enough (and_from (is_digit (48 + q)) (not (48 + q == 48)) (digit-true q (omega arith)) some) in
    let value : with_digit ((48 + q) - 48) (48 + d) ≡ m = omega arith in
    ap₂ (λ x y. by_ends whole n (n - 2) (n - 1) x y) other last
    ∙ (ap (λ b. if not b then None else (if nat_le 2 n && (is_digit (48 + q) && not (48 + q == 48)) then Some (take (n - 2) whole, with_digit ((48 + q) - 48) (48 + d)) else Some (take (n - 1) whole, (48 + d) - 48))) (digit-true d (omega arith))
    ∙ (ap (λ b. if b then Some (take (n - 2) whole, with_digit ((48 + q) - 48) (48 + d)) else Some (take (n - 1) whole, (48 + d) - 48)) so
    ∙ ap₂ (λ a v. Some (a, v)) (ap (λ k. take k whole) previous ∙ take-word front ((48 + q) ∷ (48 + d) ∷ [])) value))

pub number-at-end : (before : List ℕ) (o m : ℕ) → is_digit o ≡ false → m < 100 → number_at_end ((before ++ o ∷ []) ++ decimal m) ≡ Some (before ++ o ∷ [], m)
number-at-end before o m no_digit small = by (nat_lt m 10) refl
  where
    by : (c : Bool) → nat_lt m 10 ≡ c → number_at_end ((before ++ o ∷ []) ++ decimal m) ≡ Some (before ++ o ∷ [], m)
    by true e =
        let one : m < 10 = grind (arith, nat_tests) in
        ap (λ ds. number_at_end ((before ++ o ∷ []) ++ ds)) (decimal_digit m one) ∙ one-digit before o no_digit m one
    by false e =
        let two : 10 ≤ m = grind (arith, nat_tests) in
        ap (λ ds. number_at_end ((before ++ o ∷ []) ++ ds)) (decimal_step m two (omega arith) ∙ ap (λ ds. ds ++ (48 + m % 10) ∷ []) (decimal_digit (m / 10) (omega arith)))
        ∙ two-digits (before ++ o ∷ []) m two small

-- a level below 100 is written in decimal
pub level-is : (i : ℕ) → i < 100 → level_text i ≡ decimal i
level-is i small = by (nat_lt i 10) refl
  where
    by : (c : Bool) → nat_lt i 10 ≡ c → cond c ((48 + i) ∷ []) ((48 + i / 10) ∷ (48 + i % 10) ∷ []) ≡ decimal i
    by true e = let one : i < 10 = grind (arith, nat_tests) in sym (decimal_digit i one)
    by false e =
        let two : 10 ≤ i = grind (arith, nat_tests) in
        sym (decimal_step i two (omega arith) ∙ ap (λ ds. ds ++ (48 + i % 10) ∷ []) (decimal_digit (i / 10) (omega arith)))

-- and is found at the end of a name
pub level-at-end : (before : List ℕ) (o m : ℕ) → is_digit o ≡ false → m < 100 → number_at_end ((before ++ o ∷ []) ++ level_text m) ≡ Some (before ++ o ∷ [], m)
level-at-end before o m no_digit small =
    ap (λ ds. number_at_end ((before ++ o ∷ []) ++ ds)) (level-is m small) ∙ number-at-end before o m no_digit small
