-- Where no node is there twice, equal trees have equal places.
use Rattle.std.proofs.Common.{◌≡◌, ℕ, zero, suc, ◌<◌, List, length, sym, ◌∙◌, ap₂, arith}
use Rattle.theory.specs.Terms as tree
use Rattle.term_pool.specs.declared.node.Node.{Node}
use Rattle.term_pool.specs.declared.node.Node.TheVariants.{Var, Sort, Pi, Lam, App, Let, Const, Fam, Con, Elim, AxiomK}
use Rattle.term_pool.specs.Nodes.{says, AllParts}
use Rattle.term_pool.specs.Pools.{AreDistinct}
use Rattle.term_pool.specs.Shelves.{node_at, tree_at, AreInOrder}
use Rattle.term_pool.proofs.Shelving.{parts-map, tree_at-says}

module _ {I : Type 0} where
  -- nodes that say the same are the same, if their parts are where they stand for the same
  pub same-says : (f : I → tree.Term) (P : I → Type 0) (n m : Node I) → AllParts (λ p. (q : I) → P q → f p ≡ f q → p ≡ q) n → AllParts P m
      → says f n ≡ says f m → n ≡ m
  same-says f P (Var i) (Var j) h g e = cc
  same-says f P (Var i) _ h g e = absurd cc
  same-says f P (Sort i) (Sort j) h g e = cc
  same-says f P (Sort i) _ h g e = absurd cc
  same-says f P (Pi a b) (Pi c d) h g e = ap₂ Pi (h.0 c g.0 cc) (h.1 d g.1 cc)
  same-says f P (Pi a b) _ h g e = absurd cc
  same-says f P (Lam a b) (Lam c d) h g e = ap₂ Lam (h.0 c g.0 cc) (h.1 d g.1 cc)
  same-says f P (Lam a b) _ h g e = absurd cc
  same-says f P (App a b) (App c d) h g e = ap₂ App (h.0 c g.0 cc) (h.1 d g.1 cc)
  same-says f P (App a b) _ h g e = absurd cc
  same-says f P (Let a t b) (Let c u d) h g e =
      let first = h.0 c g.0 cc in
      let second = h.1 u g.1 cc in
      let third = h.2 d g.2 cc in
      (λ i. Let (first i) (second i) (third i))
  same-says f P (Let a t b) _ h g e = absurd cc
  same-says f P (Const i) (Const j) h g e = cc
  same-says f P (Const i) _ h g e = absurd cc
  same-says f P (Fam i) (Fam j) h g e = cc
  same-says f P (Fam i) _ h g e = absurd cc
  same-says f P (Con i k) (Con j l) h g e = cc
  same-says f P (Con i k) _ h g e = absurd cc
  same-says f P (Elim i k) (Elim j l) h g e = cc
  same-says f P (Elim i k) _ h g e = absurd cc
  same-says f P (AxiomK i k) (AxiomK j l) h g e = cc
  same-says f P (AxiomK i k) _ h g e = absurd cc

  module _ (place : I → ℕ) (only : (p q : I) → place p ≡ place q → p ≡ q) (nodes : List (Node I)) (o : AreInOrder place nodes) (d : AreDistinct nodes) where
    unique : (k i j : ℕ) → i < k → i < length nodes → j < length nodes → tree_at place nodes i ≡ tree_at place nodes j → i ≡ j
    unique zero i j less il jl e = absurd (omega arith)
    unique (suc k) i j less il jl e =
        let f : I → tree.Term = λ p. tree_at place nodes (place p) in
        let known = parts-map (λ p. place p < i) (λ p. (q : I) → place q < length nodes → f p ≡ f q → p ≡ q) (node_at nodes i)
        (λ p before q ql t. only p q (unique k (place p) (place q) (omega arith) (omega arith) ql t)) (o.each i) in
        let there = parts-map (λ p. place p < j) (λ p. place p < length nodes) (node_at nodes j) (λ p before. omega arith) (o.each j) in
        d.each i j il jl (
        same-says f (λ p. place p < length nodes) (node_at nodes i) (node_at nodes j) known there
        (sym (tree_at-says place nodes o i) ∙ (e ∙ tree_at-says place nodes o j))
        )

    -- equal trees have equal places
    pub same-tree : (i j : ℕ) → i < length nodes → j < length nodes → tree_at place nodes i ≡ tree_at place nodes j → i ≡ j
    same-tree i j il jl e = unique (suc i) i j (omega arith) il jl e

    -- where a node's tree is there, the node is
    pub same-node : (n : Node I) (i : ℕ) → AllParts (λ p. place p < length nodes) n → i < length nodes
        → tree_at place nodes i ≡ says (λ p. tree_at place nodes (place p)) n → node_at nodes i ≡ n
    same-node n i h il e =
        let f : I → tree.Term = λ p. tree_at place nodes (place p) in
        let known = parts-map (λ p. place p < i) (λ p. (q : I) → place q < length nodes → f p ≡ f q → p ≡ q) (node_at nodes i)
        (λ p before q ql t. only p q (same-tree (place p) (place q) (omega arith) ql t)) (o.each i) in
        same-says f (λ p. place p < length nodes) (node_at nodes i) n known h (sym (tree_at-says place nodes o i) ∙ e)
