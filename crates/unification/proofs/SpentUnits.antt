-- Properties of an answer and of the units that are left after it, where no call gives units back.
use Rattle.std.proofs.Common.{◌≡◌, ℕ, ◌≤◌, Bool, true, false, cond, Result, Ok, Err, IfOk, refl, arith}
use Rattle.core_terms.specs.Answers.{Spent, and_next, on_answer}
use Rattle.core_terms.specs.declared.stop.Stop.{Stop}
use Rattle.kernel_reduce.specs.Reduction.{answered}

-- the answer, where there is one, and the units after it have P
abbrev pub Leaves : {A : Type 0} → (A → ℕ → Type 0) → Result A Stop → ℕ → Type 0
Leaves P (Ok a) rest = P a rest
Leaves P (Err e) rest = Unit {0}

-- the answer has P, and no more units are left than there were
pub record Within {A : Type 0} (left : ℕ) (P : A → ℕ → Type 0) (r : Spent A) : Type 0 where
  pub spends : r.1 ≤ left
  pub leaves : Leaves P r.0 r.1

-- nothing is said of the answer
abbrev pub Any : {A : Type 0} → A → ℕ → Type 0
Any a rest = Unit {0}

-- of an answer of which nothing is to be known
pub any-answer : {A : Type 0} (r : Result A Stop) → IfOk r (λ a. Unit {0})
any-answer (Ok a) = tt
any-answer (Err e) = tt

-- a property of the answer alone
pub answers-within : {A : Type 0} (left : ℕ) (P : A → Type 0) (r : Spent A) → r.1 ≤ left → IfOk r.0 P → Within left (λ a rest. P a) r
answers-within {A = A} left P r le h = record { spends = le; leaves = by r.0 r.1 h }
  where
    by : (a : Result A Stop) (rest : ℕ) → IfOk a P → Leaves (λ a rest. P a) a rest
    by (Ok a) rest h = h
    by (Err e) rest h = tt

pub any-within : {A : Type 0} (left : ℕ) (r : Spent A) → r.1 ≤ left → Within left Any r
any-within left r le = answers-within left (λ a. Unit {0}) r le (any-answer r.0)

pub answered-within : {A : Type 0} (P : A → ℕ → Type 0) (answer : Result A Stop) (left : ℕ) → IfOk answer (λ a. P a left)
    → Within left P (answered answer left)
answered-within P (Ok a) left h = record { spends = omega arith; leaves = h }
answered-within P (Err e) left h = record { spends = omega arith; leaves = tt }

-- the property also holds from more units on
pub within-later : {A : Type 0} (P Q : A → ℕ → Type 0) (r : Spent A) (left all : ℕ) → left ≤ all
    → ((a : A) (rest : ℕ) → rest ≤ left → P a rest → Q a rest) → Within left P r → Within all Q r
within-later {A = A} P Q r left all le k h = record { spends = let l : r.1 ≤ left = h.spends in omega arith; leaves = later r.0 r.1 h.spends h.leaves }
  where
    later : (a : Result A Stop) (rest : ℕ) → rest ≤ left → Leaves P a rest → Leaves Q a rest
    later (Ok a) rest l p = k a rest l p
    later (Err e) rest l p = tt

on_answer-within : {A B : Type 0} (P : A → ℕ → Type 0) (Q : B → ℕ → Type 0) (r : Result A Stop) (left all : ℕ) (go : A → ℕ → Spent B)
    → left ≤ all → Leaves P r left → ((a : A) → P a left → Within left Q (go a left)) → Within all Q (on_answer r left go)
on_answer-within P Q (Ok a) left all go le h k = within-later Q Q (go a left) left all le (λ b rest l q. q) (k a h)
on_answer-within P Q (Err e) left all go le h k = record { spends = le; leaves = tt }

-- one call after another one
pub and_next-within : {A B : Type 0} (P : A → ℕ → Type 0) (Q : B → ℕ → Type 0) (first : Spent A) (go : A → ℕ → Spent B) (left : ℕ)
    → Within left P first → ((a : A) (rest : ℕ) → rest ≤ left → P a rest → Within rest Q (go a rest)) → Within left Q (and_next first go)
and_next-within P Q first go left h k =
    on_answer-within P Q first.0 first.1 left go h.spends h.leaves (λ a p. k a first.1 h.spends p)

-- one of two calls, each of which may know the test
pub cond-within : {A : Type 0} (P : A → ℕ → Type 0) (test : Bool) (one other : Spent A) (left : ℕ) → (test ≡ true → Within left P one)
    → (test ≡ false → Within left P other) → Within left P (cond test one other)
cond-within P true one other left h k = h refl
cond-within P false one other left h k = k refl

pub cond-within_at : {A : Type 0} (P : A → ℕ → Type 0) (test : Bool) (one other : ℕ → Spent A) (left : ℕ) → (test ≡ true → Within left P (one left))
    → (test ≡ false → Within left P (other left)) → Within left P (cond test one other left)
cond-within_at P true one other left h k = h refl
cond-within_at P false one other left h k = k refl
