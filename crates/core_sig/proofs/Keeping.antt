-- Properties of each entry by its number.
use Rattle.std.proofs.Common.{◌≡◌, ℕ, List, [], ◌∷◌, ◌++◌, length, Some, slice_get, inl, inr, sym, subst₂}
use Rattle.theory.proofs.Lists.{slice_get-pushed}

-- with one entry more it holds of each where it holds of that one
pub each-push : {X : Type 0} (P : ℕ → X → Type 0) (xs : List X) (y : X) → ((n : ℕ) (x : X) → slice_get xs n ≡ Some x → P n x) → P (length xs) y → (n : ℕ) (x : X) → slice_get (xs ++ y ∷ []) n ≡ Some x → P n x
each-push P xs y each last n x at = elim (slice_get-pushed xs y n x at) [
  | inl there ↦ each n x there
  | inr it ↦ subst₂ P (sym it.0) it.1 last
]
