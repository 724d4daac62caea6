-- A pool whose ids stay live with their trees has its nodes still: what came later is behind them.
use Rattle.std.proofs.Common.{◌≡◌, ℕ, zero, suc, ◌<◌, ◌≤◌, List, length, take, refl, sym, ◌∙◌, subst, arith}
use Rattle.std.proofs.Math.Seq.{ext_get_or}
use Rattle.std.proofs.lemmas.Option.{unwrap_or-slice_get}
use Rattle.std.proofs.lemmas.List.{length-take-le}
use Rattle.theory.specs.Terms as tree
use Rattle.term_pool.specs.declared.ids.Id.{Id}
use Rattle.term_pool.specs.declared.node.Node.{Node}
use Rattle.term_pool.specs.declared.node.Node.TheVariants.{Sort}
use Rattle.term_pool.specs.Held.{Keeps}
use Rattle.term_pool.specs.Pools.{Pooled, IsWhole, id_place, pool_held}
use Rattle.term_pool.specs.Shelves.{node_at, tree_at}
use Rattle.term_pool.proofs.Shelving.{at-take, below, is_below, parts-map, says-ext, tree_at-says}
use Rattle.term_pool.proofs.Sharing.{same-says, same-tree}
use Rattle.term_pool.proofs.Pooling.{only}

same-list : {I : Type 0} (xs ys : List (Node I)) → length xs ≡ length ys → ((i : ℕ) → i < length xs → node_at xs i ≡ node_at ys i) → xs ≡ ys
same-list xs ys same each =
    ext_get_or (Sort 0) xs ys same
    (λ i less. sym (unwrap_or-slice_get xs i (Sort 0)) ∙ (each i less ∙ unwrap_or-slice_get ys i (Sort 0)))

module _ (p q : Pooled) (whole : IsWhole p.nodes) (whole' : IsWhole q.nodes) (keeps : Keeps (pool_held p) (pool_held q)) where
  stays_live : (i : ℕ) → i < length p.nodes → i < length q.nodes
  stays_live i less = below i (length q.nodes) (keeps.lives (record { at = i }) (is_below i (length p.nodes) less))

  same_tree : (i : ℕ) → i < length p.nodes → tree_at id_place q.nodes i ≡ tree_at id_place p.nodes i
  same_tree i less = keeps.trees (record { at = i }) (is_below i (length p.nodes) less)

  same_node : (i : ℕ) → i < length p.nodes → node_at q.nodes i ≡ node_at p.nodes i
  same_node i less =
      let f : Id → tree.Term = λ r. tree_at id_place q.nodes r.at in
      let g : Id → tree.Term = λ r. tree_at id_place p.nodes r.at in
      let old = parts-map (λ (r : Id). r.at < i) (λ r. g r ≡ f r) (node_at p.nodes i) (λ r before. sym (same_tree r.at (omega arith))) (whole.order.each i) in
      let known = parts-map (λ (r : Id). r.at < i) (λ r. (s : Id) → s.at < length q.nodes → f r ≡ f s → r ≡ s) (node_at q.nodes i)
      (λ r before s sl t. only r s (
      same-tree id_place only q.nodes whole'.order whole'.distinct r.at s.at
      (let l = stays_live i less in omega arith) sl t
      )) (whole'.order.each i) in
      let there = parts-map (λ (r : Id). r.at < i) (λ r. r.at < length q.nodes) (node_at p.nodes i)
      (λ r before. let l = stays_live i less in omega arith) (whole.order.each i) in
      same-says f (λ r. r.at < length q.nodes) (node_at q.nodes i) (node_at p.nodes i) known there (
      sym (tree_at-says id_place q.nodes whole'.order i)
      ∙ (same_tree i less
      ∙ (tree_at-says id_place p.nodes whole.order i
      ∙ says-ext g f (node_at p.nodes i) old))
      )

  no-shorter : length p.nodes ≤ length q.nodes
  no-shorter = go (length p.nodes) refl
    where
      go : (n : ℕ) → length p.nodes ≡ n → length p.nodes ≤ length q.nodes
      go zero e = omega (arith, e)
      go (suc n) e = let l = stays_live n (omega (arith, e)) in omega (arith, e, l)

  pub nodes-stay : take (length p.nodes) q.nodes ≡ p.nodes
  nodes-stay =
      same-list (take (length p.nodes) q.nodes) p.nodes (length-take-le (length p.nodes) q.nodes no-shorter)
      (λ i less.
      let l = subst (λ n. i < n) (length-take-le (length p.nodes) q.nodes no-shorter) less in
      at-take (Sort 0) (length p.nodes) q.nodes i l ∙ same_node i l)
