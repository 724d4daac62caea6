-- The elements at one place of two lists that correspond.
use Rattle.std.proofs.Common.{◌≡◌, ℕ, None, Some, List, slice_get, inl, inr, sym, ◌∙◌, arith}
use Rattle.std.proofs.lemmas.Option.{none-some, slice_get_within, slice_get_cases}
use Rattle.core_sig.specs.EntryIds.{Correspond}

module _ {X Y : Type 0} (P : ℕ → X → Y → Type 0) (xs : List X) (ys : List Y) (c : Correspond P xs ys) where
  pub first-at : (n : ℕ) (x : X) → slice_get xs n ≡ Some x → (y : Y) × ((slice_get ys n ≡ Some y) × P n x y)
  first-at n x at = elim (slice_get_cases ys n).1 [
    | inl h ↦ (h.0, (h.2, c.each n x h.0 at h.2))
    | inr h ↦ (let within = slice_get_within xs n x at in absurd (omega (arith, c.count, h.0)))
  ]

  pub second-at : (n : ℕ) (y : Y) → slice_get ys n ≡ Some y → (x : X) × ((slice_get xs n ≡ Some x) × P n x y)
  second-at n y there = elim (slice_get_cases xs n).1 [
    | inl h ↦ (h.0, (h.2, c.each n h.0 y h.2 there))
    | inr h ↦ (let within = slice_get_within ys n y there in absurd (omega (arith, c.count, h.0)))
  ]

  pub first-past : (n : ℕ) → slice_get ys n ≡ None → slice_get xs n ≡ None
  first-past n none = elim (slice_get_cases xs n).1 [
    | inl h ↦ (let y = first-at n h.0 h.2 in absurd (none-some y.0 (sym none ∙ y.1.0)))
    | inr h ↦ h.1
  ]
