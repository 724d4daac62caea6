-- A loop along a list, until a refusal, as far as it has come.
use Rattle.std.proofs.Common.{◌≡◌, ℕ, ◌+◌, ◌<◌, ◌≤◌, Result, Ok, Err, List, [], ◌∷◌, ◌++◌, drop, length, get_or, refl, sym, ap, ◌∙◌, append_assoc, arith}
use Rattle.core_terms.specs.Answers.{SpentOr, on_answer, and_next}
use Rattle.core_terms.specs.Loops.{for_each}
use Rattle.core_terms.proofs.Answers.{and_next-spends}
use Rattle.core_terms.proofs.Lists.{drop-at}

-- the answers that are there, before those that follow
abbrev pub so_far : {A E : Type 0} → List A → SpentOr E (List A) → SpentOr E (List A)
so_far xs rest = and_next rest (λ more end. (Ok (xs ++ more), end))

-- one answer, and those after it
abbrev one_more : {A E : Type 0} → SpentOr E A → (ℕ → SpentOr E (List A)) → SpentOr E (List A)
one_more first next = and_next first (λ a rest. and_next (next rest) (λ others end. (Ok (a ∷ others), end)))

so_far-more : {A E : Type 0} (xs : List A) (a : A) (next : SpentOr E (List A))
    → so_far xs (and_next next (λ others end. (Ok (a ∷ others), end))) ≡ so_far (xs ++ a ∷ []) next
so_far-more {A} {E} xs a next = go next.0 next.1
  where
    go : (r : Result (List A) E) (end : ℕ)
        → so_far xs (on_answer r end (λ others last. (Ok (a ∷ others), last))) ≡ on_answer r end (λ more last. (Ok ((xs ++ a ∷ []) ++ more), last))
    go (Ok others) end = ap (λ ys. (Ok ys, end)) (sym (append_assoc xs (a ∷ []) others))
    go (Err e) end = refl

module _ {S X A E : Type 0} (each : S → ℕ → X → ℕ → SpentOr E A) (more : S → X → S) where
  at-item : (s : S) (items : List X) (k : ℕ) (x : X) (left : ℕ) → k < length items → x ≡ get_or items k x
      → for_each each more s k (drop k items) left ≡ one_more (each s k x left) (for_each each more (more s x) (k + 1) (drop (k + 1) items))
  at-item s items k x left lt is = ap (λ xs. for_each each more s k xs left) (drop-at items k x lt is)

  -- the loop goes on,
  pub each-goes_on : (s : S) (items : List X) (k : ℕ) (x : X) (left : ℕ) (xs : List A) (whole : SpentOr E (List A)) (a : A) (l : ℕ)
      → whole ≡ so_far xs (for_each each more s k (drop k items) left) → k < length items → x ≡ get_or items k x
      → ◌≡◌ {A = SpentOr E A} (Ok a, l) (each s k x left) → whole ≡ so_far (xs ++ a ∷ []) (for_each each more (more s x) (k + 1) (drop (k + 1) items) l)
  each-goes_on s items k x left xs whole a l before lt is at =
      before ∙ (ap (so_far xs) (at-item s items k x left lt is)
      ∙ (ap (λ first. so_far xs (one_more first (for_each each more (more s x) (k + 1) (drop (k + 1) items)))) (sym at)
      ∙ so_far-more xs a (for_each each more (more s x) (k + 1) (drop (k + 1) items) l)))

  -- or stops
  pub each-stops : (s : S) (items : List X) (k : ℕ) (x : X) (left : ℕ) (xs : List A) (whole : SpentOr E (List A)) (e : E) (l : ℕ)
      → whole ≡ so_far xs (for_each each more s k (drop k items) left) → k < length items → x ≡ get_or items k x
      → ◌≡◌ {A = SpentOr E A} (Err e, l) (each s k x left) → ◌≡◌ {A = SpentOr E (List A)} (Err e, l) whole
  each-stops s items k x left xs whole e l before lt is at =
      ap (λ first. so_far xs (one_more first (for_each each more (more s x) (k + 1) (drop (k + 1) items)))) at
      ∙ sym (before ∙ ap (so_far xs) (at-item s items k x left lt is))

  -- no units are given back if no item gives any back
  pub each-spends : ((s : S) (k : ℕ) (x : X) (left : ℕ) → (each s k x left).1 ≤ left) → (s : S) (k : ℕ) (xs : List X) (left : ℕ) → (for_each each more s k xs left).1 ≤ left
  each-spends h s k [] left = omega arith
  each-spends h s k (x ∷ xs) left =
      and_next-spends (each s k x left) _ left (h s k x left) (λ a rest.
      and_next-spends (for_each each more (more s x) (k + 1) xs rest) _ rest (each-spends h (more s x) (k + 1) xs rest) (λ others end. omega arith))
