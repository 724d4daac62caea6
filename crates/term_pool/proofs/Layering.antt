-- Nodes beside those of a pool: two lists, one after the other.
use Rattle.std.proofs.Common.{◌≡◌, ◌≢◌, ◌⊎◌, inl, inr, ℕ, nat_lt, ◌+◌, ◌-◌, ◌<◌, ◌≤◌, List, [], ◌∷◌, ◌++◌, length, slice_get, ap, ◌∙◌, sym, subst, append_assoc, append-nil, arith}
use Rattle.std.specs.Option.{unwrap_or}
use Rattle.std.proofs.lemmas.List.{length-append}
use Rattle.theory.proofs.Lists.{slice_get-append_right}
use Rattle.term_pool.specs.Layers.{IsLayer}
use Rattle.term_pool.specs.Nodes.{says, AllPass}
use Rattle.term_pool.specs.Pools.{IsPool, id_place}
use Rattle.term_pool.specs.Shelves.{facts_of, node_at, tree_at}
use Rattle.term_pool.specs.declared.facts.Facts.{Facts}
use Rattle.term_pool.specs.declared.ids.Id.{Id}
use Rattle.term_pool.specs.declared.node.Node.{Node}
use Rattle.term_pool.specs.declared.node.Node.TheVariants.{Sort}
use Rattle.term_pool.proofs.Shelving.{tri, at-append}
use Rattle.term_pool.proofs.Pooling.{pool-push}

module _ {X : Type 0} where
  -- a place behind the first list is one of the second
  pub at-behind : (d : X) (xs ys : List X) (i : ℕ) → length xs ≤ i → unwrap_or (slice_get (xs ++ ys) i) d ≡ unwrap_or (slice_get ys (i - length xs)) d
  at-behind d xs ys i h =
      let place : i ≡ length xs + (i - length xs) = omega (arith, h) in
      ap (λ o. unwrap_or o d) (ap (slice_get (xs ++ ys)) place ∙ slice_get-append_right xs ys (i - length xs))

pub ruleset place_laws = (at-append, at-behind)

module _ (below : List (Node Id)) (cap : ℕ) where
  -- no nodes beside those of the pool
  pub layer-none : IsLayer below cap [] []
  layer-none =
      record { whole = λ kept p. subst (λ ns. IsPool ns (kept ++ []) cap) (sym (append-nil below)) (subst (λ fs. IsPool below fs cap) (sym (append-nil kept)) p) }

  -- a node that is nowhere goes at the end
  pub layer-push : (nodes : List (Node Id)) (facts : List Facts) → IsLayer below cap nodes facts → (n : Node Id)
      → AllPass (λ (q : Id). nat_lt q.at (length (below ++ nodes))) n → (f : Facts)
      → ((i : ℕ) → i < length (below ++ nodes) → node_at (below ++ nodes) i ≢ n) → length (below ++ nodes) < cap
      → f ≡ facts_of (says (λ (q : Id). tree_at id_place (below ++ nodes) q.at) n) → f.height ≤ 2000
      → IsLayer below cap (nodes ++ n ∷ []) (facts ++ f ∷ [])
  layer-push nodes facts l n parts f new room is low =
      record {
        whole = λ kept p.
            subst (λ ns. IsPool ns (kept ++ (facts ++ f ∷ [])) cap) (append_assoc below nodes (n ∷ []))
            (subst (λ fs. IsPool ((below ++ nodes) ++ n ∷ []) fs cap) (append_assoc kept facts (f ∷ []))
            (pool-push (below ++ nodes) (kept ++ facts) cap (l.whole kept p) n parts f new room is low));
      }

-- a look-up in the first list, and then in the second, is one in both
module _ (below nodes : List (Node Id)) (n : Node Id) where
  pub found-before : (i : ℕ) → (i < length below) × (node_at below i ≡ n) → (i < length (below ++ nodes)) × (node_at (below ++ nodes) i ≡ n)
  found-before i h = (omega (arith, h.0, length-append below nodes), at-append (Sort 0) below nodes i h.0 ∙ h.1)

  pub found-behind : (i : ℕ) → (i < length nodes) × (node_at nodes i ≡ n) → (length below + i < length (below ++ nodes)) × (node_at (below ++ nodes) (length below + i) ≡ n)
  found-behind i h =
      let place : length below + i - length below ≡ i = omega arith in (
        omega (arith, h.0, length-append below nodes),
        at-behind (Sort 0) below nodes (length below + i) (omega arith) ∙ (ap (λ j. node_at nodes j) place ∙ h.1),
      )

  pub nowhere-at-all : ((i : ℕ) → i < length below → node_at below i ≢ n) → ((i : ℕ) → i < length nodes → node_at nodes i ≢ n)
      → (i : ℕ) → i < length (below ++ nodes) → node_at (below ++ nodes) i ≢ n
  nowhere-at-all first second i less e =
      elim (tri i (length below)) [
        | inl l ↦ first i l (sym (at-append (Sort 0) below nodes i l) ∙ e)
        | inr r ↦
            (let behind = from_there i (length below) r in
            second (i - length below) (omega (arith, less, behind, length-append below nodes)) (sym (at-behind (Sort 0) below nodes i behind) ∙ e))
      ]
    where
      from_there : (i m : ℕ) → (i ≡ m) ⊎ (m < i) → m ≤ i
      from_there i m (inl e) = omega (arith, e)
      from_there i m (inr l) = omega (arith, l)
