-- Readings that succeed unless a term is too deep or too high.
use Rattle.std.proofs.Common.{◌≡◌, ℕ, Bool, true, false, List, ◌∷◌, length, refl, ap, ◌∙◌}
use Rattle.std.specs.Prelude.{nat_le, if◌then◌else◌, Ok, Err, codes}
use Rattle.theory.specs.Terms.{Term, height}
use Rattle.core_text.specs.Reading.{Reading, and_then, after}
use Rattle.core_text.specs.TermReading.{most, limited, closed_by}
use Rattle.core_text.specs.declared.halt.Halt.TheVariants.{Nested}
use Rattle.core_text.proofs.NumbersBack.{past-word}

-- The reading gives a and leaves the bytes r, or a term in it is too deep or too high, of which H is known.
pub data OrNested (H : Type 0) {A : Type 0} (m : Reading A) (a : A) (r : List ℕ) : Type 0 where
  is_read : m ≡ Ok (a, r) → OrNested H m a r
  is_nested : (left : ℕ) → H → m ≡ Err (Nested left) → OrNested H m a r

-- a property of the term that follows from another
pub or-weaker : {H K : Type 0} {A : Type 0} {m : Reading A} {a : A} {r : List ℕ} → (H → K) → OrNested H m a r → OrNested K m a r
or-weaker f (is_read is) = is_read is
or-weaker f (is_nested left high is) = is_nested left (f high) is

-- equal readings
pub or-same : {H : Type 0} {A : Type 0} (m k : Reading A) {a : A} {r : List ℕ} → m ≡ k → OrNested H k a r → OrNested H m a r
or-same m k e (is_read is) = is_read (e ∙ is)
or-same m k e (is_nested left high is) = is_nested left high (e ∙ is)

-- reading, and then more
pub or-then : {H : Type 0} {A B : Type 0} {m : Reading A} {a : A} {r : List ℕ} (next : A → List ℕ → Reading B) {b : B} {s : List ℕ} → OrNested H m a r → OrNested H (next a r) b s → OrNested H (and_then m next) b s
or-then {a = a} {r = r} next (is_read is) h = or-same _ (next a r) (ap (λ k. and_then k next) is) h
or-then next (is_nested left high is) h = is_nested left high (ap (λ k. and_then k next) is)

-- another form of the value that is read
pub or-other : {H : Type 0} {A : Type 0} (m : Reading A) {a b : A} {r : List ℕ} → a ≡ b → OrNested H m a r → OrNested H m b r
or-other m {r = r} e (is_read is) = is_read (is ∙ ap (λ x. Ok (x, r)) e)
or-other m e (is_nested left high is) = is_nested left high is

-- ---- the ends of forms

pub or-limited : (t : Term) (rest : List ℕ) → OrNested (Unit {0}) (limited t rest) t rest
or-limited t rest = by (nat_le (height t) most)
  where
    by : (b : Bool) → OrNested (Unit {0}) (if b then Ok (t, rest) else Err (Nested (length rest))) t rest
    by true = is_read refl
    by false = is_nested (length rest) tt refl

pub or-closed : (t : Term) (rest : List ℕ) → OrNested (Unit {0}) (closed_by t (41 ∷ rest)) t rest
or-closed t rest =
    or-same (closed_by t (41 ∷ rest)) (limited t rest) (ap (λ m. after m (limited t)) (past-word (codes ")") rest)) (or-limited t rest)
