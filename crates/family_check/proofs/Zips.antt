-- Pairs of two lists of one length.
use Rattle.std.proofs.Common.{◌≡◌, ℕ, List, [], ◌∷◌, map, length, zip, refl, ap, arith}
use Rattle.theory.specs.Terms.{Term}

pub zip-firsts : (ts : List Term) (is : List ℕ) → length is ≡ length ts → map (λ i. i.0) (zip ts is) ≡ ts
zip-firsts [] is counted = refl
zip-firsts (t ∷ ts) [] counted = absurd (grind arith)
zip-firsts (t ∷ ts) (i ∷ is) counted = ap (λ xs. t ∷ xs) (zip-firsts ts is (omega arith))

pub zip-seconds : (ts : List Term) (is : List ℕ) → length is ≡ length ts → map (λ i. i.1) (zip ts is) ≡ is
zip-seconds [] [] counted = refl
zip-seconds [] (i ∷ is) counted = absurd (grind arith)
zip-seconds (t ∷ ts) [] counted = absurd (grind arith)
zip-seconds (t ∷ ts) (i ∷ is) counted = ap (λ xs. i ∷ xs) (zip-seconds ts is (omega arith))
