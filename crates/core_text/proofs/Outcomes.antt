-- Properties of a value that is read, if any is.
use Rattle.std.proofs.Common.{◌≡◌, ℕ, ◌-◌, ◌<◌, ◌≤◌, Bool, true, false, List, length, drop, refl, arith}
use Rattle.std.specs.Prelude.{◌==◌, nat_le, nat_lt, if◌then◌else◌, Ok, Err}
use Rattle.std.proofs.lemmas.Bool.Decides.{nat_tests}
use Rattle.std.proofs.lemmas.List.{length-drop}
use Rattle.core_text.specs.Heads.{shared}
use Rattle.core_text.specs.Reading.{Reading, and_then, after, past}
use Rattle.core_text.specs.declared.halt.Halt.TheVariants.{Wrong}

abbrev pub Ensures : {A : Type 0} → (A → List ℕ → Type 0) → Reading A → Type 0
Ensures P (Ok p) = P p.0 p.1
Ensures P (Err e) = Unit {0}

pub ensures-then : {A B : Type 0} (P : A → List ℕ → Type 0) (Q : B → List ℕ → Type 0) (m : Reading A) (next : A → List ℕ → Reading B) → Ensures P m → ((a : A) (r : List ℕ) → P a r → Ensures Q (next a r)) → Ensures Q (and_then m next)
ensures-then P Q (Ok p) next h k = k p.0 p.1 h
ensures-then P Q (Err e) next h k = tt

pub ensures-if : {A : Type 0} (Q : A → List ℕ → Type 0) (b : Bool) (x y : Reading A) → (b ≡ true → Ensures Q x) → (b ≡ false → Ensures Q y) → Ensures Q (if b then x else y)
ensures-if Q true x y first second = first refl
ensures-if Q false x y first second = second refl

pub ensures-past : {B : Type 0} (Q : B → List ℕ → Type 0) (word rest : List ℕ) (next : List ℕ → Reading B) → ((r : List ℕ) → length r ≡ length rest - length word → Ensures Q (next r)) → Ensures Q (after (past word rest) next)
ensures-past Q word rest next k = by (shared rest word == length word)
  where
    by : (b : Bool) → Ensures Q (after (if b then Ok (drop (length word) rest) else Err (Wrong (length rest - shared rest word))) next)
    by true = k (drop (length word) rest) (length-drop (length word) rest)
    by false = tt

-- `ensures-past` where only the number of bytes matters
pub ensures-after : {B : Type 0} (Q : B → List ℕ → Type 0) (n : ℕ) (word rest : List ℕ) (next : List ℕ → Reading B) → length rest ≤ n → ((r : List ℕ) → length r ≤ n → Ensures Q (next r)) → Ensures Q (after (past word rest) next)
ensures-after Q n word rest next short k = ensures-past Q word rest next (λ r is. k r (omega arith))

-- ---- tests of numbers

pub lt-is : (a b : ℕ) → nat_lt a b ≡ true → a < b
lt-is a b e = grind (arith, nat_tests)

pub le-is : (a b : ℕ) → nat_le a b ≡ true → a ≤ b
le-is a b e = grind (arith, nat_tests)
