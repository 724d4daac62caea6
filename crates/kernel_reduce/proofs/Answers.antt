-- Properties of the answer of a computation with units, and of the units that it leaves, from those of its parts.
use Rattle.std.proofs.Common.{ℕ, ◌≤◌, ◌≡◌, zero, suc, Bool, true, false, refl, arith}
use Rattle.core_terms.specs.Answers.{Spent}
use Rattle.core_terms.proofs.Answers.{Answers}
use Rattle.kernel_reduce.specs.Reduction.{charge, if_low}

pub charge-has : {A : Type 0} (P : A → Type 0) (next : ℕ → Spent A) (left : ℕ) → ((rest : ℕ) → Answers P (next rest)) → Answers P (charge next left)
charge-has P next zero h = tt
charge-has P next (suc left) h = h left

pub if_low-has : {A : Type 0} (P : A → Type 0) (test : Bool) (next : ℕ → Spent A) (left : ℕ) → (test ≡ true → Answers P (next left)) → Answers P (if_low test next left)
if_low-has P true next left h = h refl
if_low-has P false next left h = tt

pub charge-spends : {A : Type 0} (next : ℕ → Spent A) (left : ℕ) → ((rest : ℕ) → (next rest).1 ≤ rest) → (charge next left).1 ≤ left
charge-spends next zero h = omega arith
charge-spends next (suc left) h = let l = h left in omega arith

pub if_low-spends : {A : Type 0} (test : Bool) (next : ℕ → Spent A) (left : ℕ) → (next left).1 ≤ left → (if_low test next left).1 ≤ left
if_low-spends true next left h = h
if_low-spends false next left h = omega arith
