-- Lists of terms of the code that are cut and joined, and the trees that they stand for.
use Rattle.std.proofs.Common.{◌≡◌, ℕ, zero, suc, ◌-◌, ◌≤◌, List, [], ◌∷◌, ◌++◌, length, take, drop, refl, ap, ◌∙◌, arith}
use Rattle.std.proofs.lemmas.List.{map-append, length-drop}
use Rattle.core_terms.specs.Meanings.{tree_of, tele_of}
use Rattle.core_terms.specs.declared.term.Term as code

pub tele_take : (n : ℕ) (xs : List code.Term) → tele_of (take n xs) ≡ take n (tele_of xs)
tele_take zero xs = refl
tele_take (suc n) [] = refl
tele_take (suc n) (x ∷ xs) = ap (λ ts. tree_of x ∷ ts) (tele_take n xs)

tele_drop : (n : ℕ) (xs : List code.Term) → tele_of (drop n xs) ≡ drop n (tele_of xs)
tele_drop zero xs = refl
tele_drop (suc n) [] = refl
tele_drop (suc n) (x ∷ xs) = tele_drop n xs

take-whole : {A : Type 0} (xs : List A) (k : ℕ) → length xs ≤ k → take k xs ≡ xs
take-whole [] zero low = refl
take-whole [] (suc k) low = refl
take-whole (x ∷ xs) zero low = absurd (omega arith)
take-whole (x ∷ xs) (suc k) low = ap (λ ys. x ∷ ys) (take-whole xs k (omega arith))

pub tele_behind : (n : ℕ) (xs : List code.Term) → tele_of (take (length xs - n) (drop n xs)) ≡ drop n (tele_of xs)
tele_behind n xs =
    ap tele_of (take-whole (drop n xs) (length xs - n) (omega (arith, length-drop n xs))) ∙ tele_drop n xs

pub tele_append : (xs ys : List code.Term) → tele_of (xs ++ ys) ≡ tele_of xs ++ tele_of ys
tele_append xs ys = map-append tree_of xs ys

pub ruleset cut_laws = (tele_take, tele_behind)

pub ruleset joined_laws = (tele_append)
