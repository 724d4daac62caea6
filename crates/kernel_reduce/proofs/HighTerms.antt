-- A call that is given a term higher than 2,000 is Deep, and spends nothing.
use Rattle.std.proofs.Common.{◌≡◌, ℕ, zero, suc, ◌<◌, ◌&&◌, Bool, true, false, Err, refl, ap, arith}
use Rattle.std.proofs.lemmas.Bool.Decides.{nat_tests}
use Rattle.theory.specs.Terms.{Term, height}
use Rattle.theory.specs.Signatures.{Signature}
use Rattle.core_terms.specs.Answers.{Spent, and_next, is_low}
use Rattle.core_terms.specs.declared.stop.Stop.TheVariants.{Deep}
use Rattle.kernel_reduce.specs.Comparison.{convertible_of, subtype_of}
use Rattle.kernel_reduce.specs.Reduction.{answered, if_low, whnf_of, normal_children, normal_of}

high-is : (t : Term) → 2000 < height t → is_low t ≡ false
high-is t h = grind (arith, nat_tests)

if-false : {A : Type 0} (test : Bool) (next : ℕ → Spent A) (left : ℕ) → test ≡ false → answered (Err Deep) left ≡ if_low test next left
if-false true next left e = absurd (grind arith)
if-false false next left e = refl

pub if-high : {A : Type 0} (t : Term) (next : ℕ → Spent A) (left : ℕ) → 2000 < height t → answered (Err Deep) left ≡ if_low (is_low t) next left
if-high t next left h = if-false (is_low t) next left (high-is t h)

pub whnf-high : (S : Signature) (delta : Bool) (left : ℕ) (t : Term) → 2000 < height t → answered (Err Deep) left ≡ whnf_of S delta left t
whnf-high S delta zero t h = if-high t _ zero h
whnf-high S delta (suc left) t h = if-high t _ (suc left) h

pub normal-high : (S : Signature) (delta : Bool) (room : ℕ) (t : Term) (left : ℕ) → 2000 < height t → answered (Err Deep) left ≡ normal_of S delta room t left
normal-high S delta zero t left h = refl
normal-high S delta (suc room) t left h =
    ap (λ r. and_next r (normal_children (normal_of S delta room))) (whnf-high S delta left t h)

-- one of the terms that are compared is too high
first-high : (a b : Term) → 2000 < height a → (is_low a && is_low b) ≡ false
first-high a b h = ap (λ x. x && is_low b) (high-is a h)

second-high : (a b : Term) → 2000 < height b → (is_low a && is_low b) ≡ false
second-high a b h = both (is_low a) (high-is b h)
  where
    both : {y : Bool} (x : Bool) → y ≡ false → (x && y) ≡ false
    both true e = e
    both false e = refl

pub convertible-high_first : (S : Signature) (room : ℕ) (a b : Term) (left : ℕ) → 2000 < height a → answered (Err Deep) left ≡ convertible_of S room a b left
convertible-high_first S zero a b left h = refl
convertible-high_first S (suc room) a b left h = if-false (is_low a && is_low b) _ left (first-high a b h)

pub convertible-high_second : (S : Signature) (room : ℕ) (a b : Term) (left : ℕ) → 2000 < height b → answered (Err Deep) left ≡ convertible_of S room a b left
convertible-high_second S zero a b left h = refl
convertible-high_second S (suc room) a b left h = if-false (is_low a && is_low b) _ left (second-high a b h)

pub subtype-high_first : (S : Signature) (room : ℕ) (a b : Term) (left : ℕ) → 2000 < height a → answered (Err Deep) left ≡ subtype_of S room a b left
subtype-high_first S zero a b left h = refl
subtype-high_first S (suc room) a b left h = if-false (is_low a && is_low b) _ left (first-high a b h)

pub subtype-high_second : (S : Signature) (room : ℕ) (a b : Term) (left : ℕ) → 2000 < height b → answered (Err Deep) left ≡ subtype_of S room a b left
subtype-high_second S zero a b left h = refl
subtype-high_second S (suc room) a b left h = if-false (is_low a && is_low b) _ left (second-high a b h)
