-- Runs of the characters of names, one character at a time.
use Rattle.std.proofs.Common.{◌++◌, take, ◌≡◌, ℕ, zero, suc, ◌+◌, ◌-◌, ◌<◌, true, false, List, [], ◌∷◌, drop, length, refl, ap, arith}
use Rattle.std.specs.Prelude.{◌==◌}
use Rattle.std.specs.Str.{IsUtf8, is_utf8}
use Rattle.std.proofs.lemmas.Str.{IsUtf8-from_is_utf8}
use Rattle.std.proofs.lemmas.Bool.Decides.{nat_tests}
use Rattle.core_text.specs.NameRuns.{run_after, run_len, name_char_len}

pub no_utf8 : (bytes : List ℕ) → ¬ IsUtf8 bytes → is_utf8 bytes ≡ false
no_utf8 bytes not_so =
    elim (is_utf8 bytes) as (λ b. is_utf8 bytes ≡ b → b ≡ false) [ true ↦ λ e. absurd (not_so (IsUtf8-from_is_utf8 bytes e)) | false ↦ λ e. refl ] refl

-- bytes that are passed over may be dropped
run_skip : (k : ℕ) (bytes : List ℕ) → run_after k bytes ≡ run_after 0 (drop k bytes)
run_skip zero bytes = refl
run_skip (suc k) [] = refl
run_skip (suc k) (b ∷ bytes) = run_skip k bytes

zero-test : (n : ℕ) → 0 < n → (n == 0) ≡ false
zero-test n some = grind (arith, nat_tests)

-- one character more
pub run_more : (bytes : List ℕ) (n : ℕ) → name_char_len bytes ≡ n → 0 < n → run_len bytes ≡ n + run_len (drop n bytes)
run_more [] n is some = absurd (omega (arith, is))
run_more (b ∷ bytes) zero is some = absurd (omega arith)
run_more (b ∷ bytes) (suc k) is some =
    let less : suc k - 1 ≡ k = omega arith in rw (is, zero-test (suc k) some, less) (ap (λ r. suc k + r) (run_skip k bytes))

-- where the bytes do not begin with a character of a name, the run is over
pub run_end : (bytes : List ℕ) → name_char_len bytes ≡ 0 → run_len bytes ≡ 0
run_end [] is = refl
run_end (b ∷ bytes) is = rw is refl

-- the bytes that are taken come before the rest
pub taken-front : (k : ℕ) (xs : List ℕ) → xs ≡ take k xs ++ drop (length (take k xs)) xs
taken-front zero xs = refl
taken-front (suc k) [] = refl
taken-front (suc k) (x ∷ xs) = ap (λ r. x ∷ r) (taken-front k xs)
