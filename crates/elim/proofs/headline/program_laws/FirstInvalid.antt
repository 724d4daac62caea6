-- Bytes are UTF-8, or have a first place at which they are not.
use Rattle.std.proofs.Common.{◌≡◌, ℕ, zero, suc, ◌<◌, ◌≤◌, ◌⊎◌, inl, inr, Bool, true, false, List, length, take, refl, sym, subst, ◌∙◌, arith, true≢false}
use Rattle.std.specs.Str.{IsUtf8, IsValidUpTo, is_utf8}
use Rattle.std.proofs.lemmas.Bool.{cases_lt}
use Rattle.std.proofs.lemmas.List.{take_all}
use Rattle.std.proofs.lemmas.Str.{IsUtf8-nil, IsUtf8-from_is_utf8, is_utf8-from_IsUtf8}

record Longest (bytes : List ℕ) : Type 0 where
  count : ℕ
  front : IsUtf8 (take count bytes)
  longest : (m : ℕ) → count < m → ¬ (IsUtf8 (take m bytes))

longest : (bytes : List ℕ) (k : ℕ) → ((m : ℕ) → k < m → ¬ (IsUtf8 (take m bytes))) → Longest bytes
longest bytes zero h = record { count = 0; front = IsUtf8-nil; longest = h }
longest bytes (suc k) h = by (is_utf8 (take (suc k) bytes)) refl (longest bytes k)
  where
    at : is_utf8 (take (suc k) bytes) ≡ false → (m : ℕ) → (suc k < m) ⊎ (m ≤ suc k) → k < m → ¬ (IsUtf8 (take m bytes))
    at e m (inl further) lt u = h m further u
    at e m (inr near) lt u =
        let same : m ≡ suc k = omega arith in true≢false (sym (is_utf8-from_IsUtf8 (take (suc k) bytes) (subst (λ n. IsUtf8 (take n bytes)) same u)) ∙ e)

    by : (b : Bool) → is_utf8 (take (suc k) bytes) ≡ b → (((m : ℕ) → k < m → ¬ (IsUtf8 (take m bytes))) → Longest bytes) → Longest bytes
    by true e less = record { count = suc k; front = IsUtf8-from_is_utf8 (take (suc k) bytes) e; longest = h }
    by false e less = less (λ m. at e m (cases_lt (suc k) m))

invalid : (bytes : List ℕ) → ¬ (IsUtf8 bytes) → Longest bytes → (offset : ℕ) × IsValidUpTo bytes offset
invalid bytes faulty w = (w.count, record { short = short (cases_lt w.count (length bytes)); front = w.front; longest = w.longest })
  where
    short : (w.count < length bytes) ⊎ (length bytes ≤ w.count) → w.count < length bytes
    short (inl h) = h
    short (inr h) = absurd (faulty (subst IsUtf8 (take_all w.count bytes h) w.front))

-- the bytes are UTF-8, or have a first place at which they are not
pub first_invalid : (bytes : List ℕ) → IsUtf8 bytes ⊎ ((offset : ℕ) × IsValidUpTo bytes offset)
first_invalid bytes = by (is_utf8 bytes) refl
  where
    by : (b : Bool) → is_utf8 bytes ≡ b → IsUtf8 bytes ⊎ ((offset : ℕ) × IsValidUpTo bytes offset)
    by true e = inl (IsUtf8-from_is_utf8 bytes e)
    by false e =
        let faulty : ¬ (IsUtf8 bytes) = λ u. true≢false (sym (is_utf8-from_IsUtf8 bytes u) ∙ e) in
        inr (invalid bytes faulty (longest bytes (length bytes) (λ m lt u. faulty (subst IsUtf8 (take_all m bytes (omega arith)) u))))
