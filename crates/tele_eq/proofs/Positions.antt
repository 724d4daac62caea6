-- All positions of a telescope, and lists with a term for each.
use Rattle.std.proofs.Common.{◌≡◌, ℕ, zero, suc, ◌+◌, ◌<◌, ◌≤◌, List, [], ◌∷◌, length, get_or, refl, ap, ◌∙◌, arith}
use Rattle.std.specs.List.{All}
use Rattle.std.proofs.lemmas.List.Elements.{All-nil, All-head, All-tail, All-cons}
use Rattle.tele_eq.specs.Items.{Item, each_position, positions_of}
use Rattle.tele_eq.proofs.Carrying.{IsFrom}

each-from : (j count : ℕ) → IsFrom j (each_position (λ k. k) j count)
each-from j zero = tt
each-from j (suc count) = (omega arith, each-from (j + 1) count)

pub positions-from : (X : List Item) → IsFrom 0 (positions_of X)
positions-from X = each-from 0 (length X)

each-below : (j count n : ℕ) → j + count ≤ n → All (λ p. p < n) (each_position (λ k. k) j count)
each-below j zero n le = All-nil (λ p. p < n)
each-below j (suc count) n le = All-cons (λ p. p < n) j (each_position (λ k. k) (j + 1) count) (omega arith) (each-below (j + 1) count n (omega arith))

pub positions-below : (X : List Item) → All (λ p. p < length X) (positions_of X)
positions-below X = each-below 0 (length X) (length X) (omega arith)

pub below-more : (j n : ℕ) → j ≤ n → (positions : List ℕ) → All (λ p. p < j) positions → All (λ p. p < n) positions
below-more j n le [] all = All-nil (λ p. p < n)
below-more j n le (t ∷ positions) all =
    All-cons (λ p. p < n) t positions (let lt : t < j = All-head (λ p. p < j) t positions all in omega arith)
    (below-more j n le positions (All-tail (λ p. p < j) t positions all))

-- the term at a position of a list with a term for each
pub each_position-at : {A : Type 0} (f : ℕ → A) (j count p : ℕ) (x : A) → p < count → get_or (each_position f j count) p x ≡ f (j + p)
each_position-at f j zero p x lt = absurd (omega arith)
each_position-at f j (suc count) zero x lt = ap f (omega arith)
each_position-at f j (suc count) (suc p) x lt = each_position-at f (j + 1) count p x (omega arith) ∙ ap f (omega arith)

pub length-each_position : {A : Type 0} (f : ℕ → A) (j count : ℕ) → length (each_position f j count) ≡ count
length-each_position f j zero = refl
length-each_position f j (suc count) = ap suc (length-each_position f (j + 1) count)
