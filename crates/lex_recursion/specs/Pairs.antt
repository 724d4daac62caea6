-- Pairs of positions: one that admits recursion, and one that follows it.
use Rattle.std.specs.Prelude.{◌≡◌, ◌⊎◌, ℕ, ◌<◌, Option, Some, None, option_and_then, option_map, List, [], ◌∷◌, flat_map, length}
use Rattle.std.specs.List.{range_with_len}
use Rattle.theory.specs.Terms.{Term}
use Rattle.theory.specs.Signatures.{Signature}
use Rattle.tree_translation.specs.structural_rec.Positions.{Admission, Admits, admission}
use Rattle.tree_translation.specs.structural_rec.Orders.{recursive_positions, recursion_order}
use Rattle.lex_recursion.specs.Following.{Follows, following}

-- the first position with its admission, and the second one with its own, in which what the first recursion goes over is fixed
pub record Pair : Type 0 where
  pub first : ℕ
  pub outer : Admission
  pub second : ℕ
  pub inner : Admission

-- The first position admits recursion, and the second one follows it.
pub record IsPair (S : Signature) (tele : List Term) (p : Pair) : Type 0 where
  pub admits : Admits S tele p.first p.outer
  pub follows : Follows S tele (recursive_positions p.first p.outer) p.second p.inner

-- an earlier pair: by the first position, and then by the second one
abbrev pub Precedes : Pair → Pair → Type 0
Precedes p q = (p.first < q.first) ⊎ ((p.first ≡ q.first) × (p.second < q.second))

-- The pair order: the fixed positions, the indices and the position of the first recursion, those of the second one, and then the others
-- in their old order.
abbrev pub pair_order : (count : ℕ) → Pair → List ℕ
pair_order count p = recursion_order count p.second p.inner

-- ---- how they are found

abbrev pub pair_with : (j : ℕ) → Admission → (k : ℕ) → Admission → Pair
pair_with j a k b = record { first = j; outer = a; second = k; inner = b }

-- the pair of j and k, where j admits recursion
abbrev pub pair_behind : (S : Signature) (tele : List Term) (j : ℕ) → Admission → (k : ℕ) → Option Pair
pair_behind S tele j a k = option_map (pair_with j a k) (following S tele (recursive_positions j a) k)

-- the pair of j and k, if they are one
abbrev pub pair_at : (S : Signature) (tele : List Term) (j k : ℕ) → Option Pair
pair_at S tele j k = option_and_then (λ a. pair_behind S tele j a k) (admission S tele j)

abbrev pub if_some : {A : Type 0} → Option A → List A
if_some None = []
if_some (Some x) = x ∷ []

-- the pairs with the first position j
abbrev pub pairs_behind : (S : Signature) (tele : List Term) (j : ℕ) → List ℕ → Admission → List Pair
pairs_behind S tele j ks a = flat_map (λ k. if_some (pair_behind S tele j a k)) ks

abbrev pub pairs_from : (S : Signature) (tele : List Term) (j : ℕ) → Option Admission → List Pair
pairs_from S tele j None = []
pairs_from S tele j (Some a) = pairs_behind S tele j (range_with_len 0 (length tele)) a

-- all pairs, by the first position and then by the second one
abbrev pub pairs : (S : Signature) (tele : List Term) → List Pair
pairs S tele = flat_map (λ j. pairs_from S tele j (admission S tele j)) (range_with_len 0 (length tele))
