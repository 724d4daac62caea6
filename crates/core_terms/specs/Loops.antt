-- For each item of a list, one after the other, until a refusal.
use Rattle.std.specs.Prelude.{ℕ, ◌+◌, List, [], ◌∷◌, Ok}
use Rattle.core_terms.specs.Answers.{SpentOr, and_next}

-- The answers of `each` for the items, the first of which has number k. It is given the state, which `more` takes from an item to the
-- next one, the number and the item.
abbrev pub for_each : {S X A E : Type 0} → (S → ℕ → X → ℕ → SpentOr E A) → (S → X → S) → S → ℕ → List X → ℕ → SpentOr E (List A)
for_each each more s k [] left = (Ok [], left)
for_each each more s k (x ∷ xs) left =
    and_next (each s k x left) (λ a rest.
    and_next (for_each each more (more s x) (k + 1) xs rest) (λ others end. (Ok (a ∷ others), end)))
