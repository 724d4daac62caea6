-- The bytes that texts share at their beginning.
use Rattle.std.proofs.Common.{◌≡◌, ℕ, ◌≤◌, List, [], ◌∷◌, drop, length, refl, ap, ◌∙◌}
use Rattle.std.proofs.lemmas.List.{drop_all}
use Rattle.core_text.specs.Heads.{shared}

shared-none : (xs : List ℕ) → shared xs [] ≡ 0
shared-none [] = refl
shared-none (x ∷ xs) = refl

-- nothing, where one of them ends
pub shared_past : (n : ℕ) (xs ys : List ℕ) → length ys ≤ n → shared (drop n xs) (drop n ys) ≡ 0
shared_past n xs ys past = ap (shared (drop n xs)) (drop_all n ys past) ∙ shared-none (drop n xs)
