-- Items that are read one after the other, one turn at a time.
use Rattle.std.proofs.Common.{◌≡◌, ℕ, zero, suc, ◌-◌, ◌<◌, List, [], ◌∷◌, ◌++◌, ap, ◌∙◌, arith}
use Rattle.std.specs.Prelude.{Ok, Option, Some, None}
use Rattle.core_text.specs.Reading.{Reading, and_then}
use Rattle.core_text.specs.LineReading.{after_item, collected}

less-one : (k : ℕ) → suc k - 1 ≡ k
less-one k = omega arith

pub collected_step : {A : Type 0} (next : List A → List ℕ → Reading (Option A)) (k : ℕ) (found : List A) (rest : List ℕ) → 0 < k → and_then (next found rest) (after_item (collected next (k - 1)) found) ≡ collected next k found rest
collected_step next zero found rest some = absurd (omega arith)
collected_step next (suc k) found rest some = ap (λ m. and_then (next found rest) (after_item (collected next m) found)) (less-one k)

-- one item more
pub collected_more : {A : Type 0} (next : List A → List ℕ → Reading (Option A)) (k : ℕ) (found : List A) (rest : List ℕ) (a : A) (end : List ℕ) → 0 < k → Ok (Some a, end) ≡ next found rest → collected next (k - 1) (found ++ a ∷ []) end ≡ collected next k found rest
collected_more next k found rest a end some is =
    ap (λ m. and_then m (after_item (collected next (k - 1)) found)) is ∙ collected_step next k found rest some

-- the end
pub collected_end : {A : Type 0} (next : List A → List ℕ → Reading (Option A)) (k : ℕ) (found : List A) (rest end : List ℕ) → 0 < k → Ok (None, end) ≡ next found rest → Ok (found, end) ≡ collected next k found rest
collected_end next k found rest end some is =
    ap (λ m. and_then m (after_item (collected next (k - 1)) found)) is ∙ collected_step next k found rest some
