-- Comparison of two terms without a head step, by their forms.
use Rattle.std.proofs.Common.{◌≡◌, ℕ, Bool, false, ◌&&◌, nat_le, Some, None, Ok, refl, ap, ap₂, sym, ◌∙◌, arith}
use Rattle.theory.specs.Terms.{Term}
use Rattle.theory.specs.Terms as tree
use Rattle.core_terms.specs.Answers.{Spent}
use Rattle.kernel_reduce.specs.Comparison.{both, heads_below, heads_convertible}
use Rattle.kernel_reduce.specs.Reduction.{answered, normal_children, with_children}
use Rattle.store_reduce.specs.Formers.{are_same, form_of, former_of, is_product, leaves_same, sorts_below}
use Rattle.store_reduce.specs.declared.form.Former.{Former}
use Rattle.store_reduce.specs.declared.form.Former.TheVariants.{Pi, Lam, App}
use Rattle.store_reduce.proofs.NormalPairs.{children-of}

module _ (convertible : Term → Term → ℕ → Spent Bool) (left : ℕ) where
  -- of different forms, or without children
  pub leaves-compare : (a b : Term) → are_same (former_of a) (former_of b) ≡ false → answered (Ok (leaves_same a b)) left ≡ heads_convertible convertible a b left
  leaves-compare (tree.Pi x y) (tree.Pi z w) h = absurd (grind (arith, h))
  leaves-compare (tree.Pi x y) (tree.Var m) h = refl
  leaves-compare (tree.Pi x y) _ h = refl
  leaves-compare (tree.Lam x y) (tree.Lam z w) h = absurd (grind (arith, h))
  leaves-compare (tree.Lam x y) (tree.Var m) h = refl
  leaves-compare (tree.Lam x y) _ h = refl
  leaves-compare (tree.App x y) (tree.App z w) h = absurd (grind (arith, h))
  leaves-compare (tree.App x y) (tree.Var m) h = refl
  leaves-compare (tree.App x y) _ h = refl
  leaves-compare (tree.Var n) (tree.Var m) h = refl
  leaves-compare (tree.Var n) _ h = refl
  leaves-compare (tree.Sort n) (tree.Sort m) h = refl
  leaves-compare (tree.Sort n) _ h = refl
  leaves-compare (tree.Let x y z) (tree.Var m) h = refl
  leaves-compare (tree.Let x y z) _ h = refl
  leaves-compare (tree.Const n) (tree.Var m) h = refl
  leaves-compare (tree.Const n) _ h = refl
  leaves-compare (tree.Fam n) (tree.Fam m) h = refl
  leaves-compare (tree.Fam n) _ h = refl
  leaves-compare (tree.Con n c) (tree.Con m d) h = refl
  leaves-compare (tree.Con n c) _ h = refl
  leaves-compare (tree.Elim n c) (tree.Elim m d) h = refl
  leaves-compare (tree.Elim n c) _ h = refl
  leaves-compare (tree.AxiomK n c) (tree.AxiomK m d) h = refl
  leaves-compare (tree.AxiomK n c) _ h = refl

  -- of the same form
  pub pairs-compare : (f : Former) (a b x y z w : Term) → a ≡ form_of f x y → b ≡ form_of f z w → both (convertible x z) (convertible y w) left ≡ heads_convertible convertible a b left
  pairs-compare f a b x y z w ea eb = by_case f ∙ ap₂ (λ s t. heads_convertible convertible s t left) (sym ea) (sym eb)
    where
      by_case : (g : Former) → both (convertible x z) (convertible y w) left ≡ heads_convertible convertible (form_of g x y) (form_of g z w) left
      by_case Pi = refl
      by_case Lam = refl
      by_case App = refl

module _ (convertible subtype : Term → Term → ℕ → Spent Bool) (left : ℕ) where
  pub sorts-order : (a b : Term) (holds : Bool) → Some holds ≡ sorts_below a b → answered (Ok holds) left ≡ heads_below convertible subtype a b left
  sorts-order (tree.Sort i) (tree.Sort j) holds h = let same : holds ≡ nat_le i j = grind (arith, h) in ap (λ x. answered (Ok x) left) same
  sorts-order (tree.Sort i) (tree.Var m) holds h = absurd (grind (arith, h))
  sorts-order (tree.Sort i) _ holds h = absurd (grind (arith, h))
  sorts-order (tree.Var n) b holds h = absurd (grind (arith, h))
  sorts-order _ b holds h = absurd (grind (arith, h))

  pub others-order : (a b : Term) → None ≡ sorts_below a b → (is_product a && is_product b) ≡ false → convertible a b left ≡ heads_below convertible subtype a b left
  others-order (tree.Sort i) (tree.Sort j) e h = absurd (grind (arith, e))
  others-order (tree.Sort i) (tree.Var m) e h = refl
  others-order (tree.Sort i) _ e h = refl
  others-order (tree.Pi x y) (tree.Pi z w) e h = absurd (grind (arith, h))
  others-order (tree.Pi x y) (tree.Var m) e h = refl
  others-order (tree.Pi x y) _ e h = refl
  others-order (tree.Var n) b e h = refl
  others-order _ b e h = refl

  pub products-order : (a b x y z w : Term) → a ≡ tree.Pi x y → b ≡ tree.Pi z w → both (convertible x z) (subtype y w) left ≡ heads_below convertible subtype a b left
  products-order a b x y z w ea eb = ap₂ (λ s t. heads_below convertible subtype s t left) (sym ea) (sym eb)

-- a term without two children is normal
pub leaf-normal : (normal : Term → ℕ → Spent Term) (t : Term) (left : ℕ) → former_of t ≡ None → answered (Ok t) left ≡ normal_children normal t left
leaf-normal normal (tree.Pi a b) left h = absurd (grind (arith, h))
leaf-normal normal (tree.Lam a b) left h = absurd (grind (arith, h))
leaf-normal normal (tree.App a b) left h = absurd (grind (arith, h))
leaf-normal normal (tree.Var n) left h = refl
leaf-normal normal _ left h = refl

pub pair-normal_children : (normal : Term → ℕ → Spent Term) (f : Former) (t a b : Term) (left : ℕ) → t ≡ form_of f a b
    → with_children (form_of f) (normal a) (normal b) left ≡ normal_children normal t left
pair-normal_children normal f t a b left e = sym (children-of normal f a b left) ∙ ap (λ u. normal_children normal u left) (sym e)
