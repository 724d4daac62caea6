-- Cases of tests and numbers.
use Rattle.std.proofs.Common.{◌≡◌, ℕ, ◌+◌, ◌<◌, ◌≤◌, ◌⊎◌, inl, inr, nat_lt, Bool, true, false, cond, refl, arith}
use Rattle.std.proofs.lemmas.Bool.Decides.{nat_tests}

pub either : (b : Bool) → (b ≡ true) ⊎ (b ≡ false)
either true = inl refl
either false = inr refl

pub same-or_not : (a b : ℕ) → (a ≡ b) ⊎ (a ≡ b → ⊥)
same-or_not a b = grind arith

pub below-or_from : (a b : ℕ) → (a < b) ⊎ (b ≤ a)
below-or_from a b = grind arith

pub here-or_below : (a b : ℕ) → a < b + 1 → (a ≡ b) ⊎ (a < b)
here-or_below a b lt = grind arith

pub less-or_same : (a b : ℕ) → a ≤ b → (a < b) ⊎ (a ≡ b)
less-or_same a b le = grind arith

-- ---- numbers below a bound, and from it on

pub first-of_two : {A : Type 0} (n k : ℕ) (x y : A) → n < k → cond (nat_lt n k) x y ≡ x
first-of_two n k x y lt = grind (arith, nat_tests)

pub second-of_two : {A : Type 0} (n k : ℕ) (x y : A) → k ≤ n → cond (nat_lt n k) x y ≡ y
second-of_two n k x y le = grind (arith, nat_tests)

-- ---- and with a further bound

pub first-of_three : {A : Type 0} (n k l : ℕ) (x y w : A) → n < k → cond (nat_lt n k) x (cond (nat_lt n l) y w) ≡ x
first-of_three n k l x y w lt = grind (arith, nat_tests)

pub second-of_three : {A : Type 0} (n k l : ℕ) (x y w : A) → k ≤ n → n < l → cond (nat_lt n k) x (cond (nat_lt n l) y w) ≡ y
second-of_three n k l x y w le lt = grind (arith, nat_tests)

pub third-of_three : {A : Type 0} (n k l : ℕ) (x y w : A) → k ≤ n → l ≤ n → cond (nat_lt n k) x (cond (nat_lt n l) y w) ≡ w
third-of_three n k l x y w le far = grind (arith, nat_tests)
