-- Calls of the recursor and hypotheses of iota, case by case as the code tells them apart.
use Rattle.std.proofs.Common.{◌≡◌, ◌≢◌, ℕ, zero, suc, ◌+◌, ◌-◌, ◌<◌, ◌≤◌, min, Bool, true, false, cond, nat_lt, nat_le, List, [], ◌∷◌, length, map, take, drop, get_or, refl, sym, ap, ap₂, ◌∙◌, subst as transport, arith}
use Rattle.std.proofs.Math.Seq.{take-length}
use Rattle.std.proofs.lemmas.Bool.Decides.{nat_tests}
use Rattle.std.proofs.lemmas.List.{length-append}
use Rattle.theory.specs.Terms.{Term, lift, height}
use Rattle.theory.specs.Terms.Term.{Var, Pi, Lam, App}
use Rattle.theory.specs.Spines.{spine_of}
use Rattle.theory.specs.Telescopes.{applied, products}
use Rattle.core_terms.specs.Meanings.{tree_of}
use Rattle.core_terms.specs.Instances.{instance_of}
use Rattle.core_sig.specs.declared.family.Arg.{Arg}
use Rattle.core_sig.specs.declared.family.ArgKind.{ArgKind}
use Rattle.core_sig.specs.declared.family.ArgKind.TheVariants.{Plain, Recursive}
use Rattle.kernel_reduce.specs.Calls.{call_of, recursive_call_of, hypothesis_of, hypothesis_before, hypotheses_of}
use Rattle.kernel_reduce.proofs.SpineLengths.{spine_fits}
use Rattle.term_pool.specs.Nodes.{says}
use Rattle.term_pool.specs.declared.node.Node.{Node}
use Rattle.term_pool.specs.declared.node.Node.TheVariants as variant
use Rattle.store_reduce.specs.Arguments.{IsOver}

module _ (values : List Term) (p : ℕ) (recursor : Term) (under : ℕ) where
  -- there are no targets
  pub call-none : (t : Term) → length (spine_of t) ≤ p → call_of values p recursor under t ≡ lift recursor under 0
  call-none (App f a) few = by_case (nat_le p (min (length (spine_of f)) 2001)) refl
    where
      by_case : (b : Bool) → nat_le p (min (length (spine_of f)) 2001) ≡ b
          → cond b (App (call_of values p recursor under f) (instance_of values under a)) (lift recursor under 0) ≡ lift recursor under 0
      by_case true e =
          let count = length-append (spine_of f) (a ∷ []) in
          let within : p ≤ min (length (spine_of f)) 2001 = grind (arith, nat_tests) in
          absurd (omega arith)
      by_case false e = refl
  call-none _ few = refl

  -- one target more
  pub call-more : (f a : Term) → p < length (spine_of (App f a)) → height (App f a) ≤ 2000
      → call_of values p recursor under (App f a) ≡ App (call_of values p recursor under f) (instance_of values under a)
  call-more f a more low = by_case (nat_le p (min (length (spine_of f)) 2001)) refl
    where
      by_case : (b : Bool) → nat_le p (min (length (spine_of f)) 2001) ≡ b
          → cond b (App (call_of values p recursor under f) (instance_of values under a)) (lift recursor under 0) ≡ App (call_of values p recursor under f) (instance_of values under a)
      by_case true e = refl
      by_case false e =
          let count = length-append (spine_of f) (a ∷ []) in
          let fits = spine_fits f in
          let past : min (length (spine_of f)) 2001 < p = grind (arith, nat_tests) in
          absurd (omega arith)

  module _ (r : Term) where
    -- no inner argument is left
    pub hypothesis-none : (inner : ℕ) (t : Term) → inner ≡ 0 → hypothesis_of values p recursor r inner under t ≡ recursive_call_of values p recursor r under t
    hypothesis-none zero (Pi a b) none = refl
    hypothesis-none (suc inner) (Pi a b) none = absurd (omega arith)
    hypothesis-none inner _ none = refl

    -- one inner argument more
    pub hypothesis-more : (inner : ℕ) (a b : Term) → inner ≢ 0
        → hypothesis_of values p recursor r inner under (Pi a b) ≡ Lam (instance_of values under a) (hypothesis_of values p recursor r (inner - 1) (under + 1) b)
    hypothesis-more inner a b some = by_case (nat_lt 0 inner) refl
      where
        by_case : (test : Bool) → nat_lt 0 inner ≡ test
            → cond test (Lam (instance_of values under a) (hypothesis_of values p recursor r (inner - 1) (under + 1) b)) (recursive_call_of values p recursor r under (Pi a b))
            ≡ Lam (instance_of values under a) (hypothesis_of values p recursor r (inner - 1) (under + 1) b)
        by_case true e = refl
        by_case false e = absurd (grind (arith, nat_tests))

-- without a product no inner argument is left
pub hypothesis-other : {I : Type 0} (at : I → Term) (node : Node I) (values : List Term) (p : ℕ) (recursor r : Term) (inner under : ℕ) → ((x y : I) → node ≡ variant.Pi x y → ⊥)
    → hypothesis_of values p recursor r inner under (says at node) ≡ recursive_call_of values p recursor r under (says at node)
hypothesis-other at (variant.Pi x y) values p recursor r inner under other = absurd (other x y refl)
hypothesis-other at (variant.Var n) values p recursor r inner under other = refl
hypothesis-other at _ values p recursor r inner under other = refl

-- the hypothesis for an argument comes before the others
pub hypothesis-then : (values : List Term) (p : ℕ) (recursor : Term) (known : ℕ) (t : Term) (kind : ArgKind) (rest : List Term) (whole : Term)
    → applied (applied whole (hypothesis_before values p recursor known t kind [])) rest ≡ applied whole (hypothesis_before values p recursor known t kind rest)
hypothesis-then values p recursor known t Plain rest whole = refl
hypothesis-then values p recursor known t (Recursive inner) rest whole = refl

rest-is : (a : Arg) (args : List Arg) → take (length (a ∷ args) - 1) args ≡ args
rest-is a args = let less : length (a ∷ args) - 1 ≡ length args = omega arith in ap (λ n. take n args) less ∙ take-length args

-- with the hypothesis for the first argument a term goes on to be applied to those for the rest
pub with-first : (values : List Term) (p : ℕ) (recursor : Term) (known : ℕ) (args : List Arg) (a : Arg) (b c whole : Term) → 1 ≤ length args → a ≡ get_or args 0 a
    → IsOver args (Pi b c)
    → applied (applied whole (hypothesis_before values p recursor known b a.kind [])) (hypotheses_of values p recursor (known + 1) (take (length args - 1) (drop 1 args)))
    ≡ applied whole (hypotheses_of values p recursor known args)
with-first values p recursor known [] a b c whole some is over = absurd (omega arith)
with-first values p recursor known (x ∷ args) a b c whole some is over =
    ap₂ (λ t k. applied (applied whole (hypothesis_before values p recursor known t k [])) (hypotheses_of values p recursor (known + 1) (take (length (x ∷ args) - 1) args)))
    over.0 (ap (λ y. y.kind) is)
    ∙ (ap (λ xs. applied (applied whole (hypothesis_before values p recursor known (tree_of x.ty) x.kind [])) (hypotheses_of values p recursor (known + 1) xs)) (rest-is x args)
    ∙ hypothesis-then values p recursor known (tree_of x.ty) x.kind (hypotheses_of values p recursor (known + 1) args) whole)

-- what is over some arguments is a product, and its rest is over the rest of them
pub over-rest : (args : List Arg) (b c : Term) → 1 ≤ length args → IsOver args (Pi b c) → IsOver (take (length args - 1) (drop 1 args)) c
over-rest [] b c some over = absurd (omega arith)
over-rest (x ∷ args) b c some over = transport (λ xs. IsOver xs c) (sym (rest-is x args)) over.1

pub over-product : (args : List Arg) (t : Term) → 1 ≤ length args → IsOver args t → ((b c : Term) → t ≡ Pi b c → ⊥) → ⊥
over-product [] t some over other = absurd (omega arith)
over-product (x ∷ args) (Pi b c) some over other = other b c refl
over-product (x ∷ args) (Var n) some over other = over
over-product (x ∷ args) _ some over other = over

product-node : {I : Type 0} (at : I → Term) (node : Node I) (b c : Term) → says at node ≡ Pi b c → ((x y : I) → node ≡ variant.Pi x y → ⊥) → ⊥
product-node at (variant.Pi x y) b c e other = other x y refl
product-node at (variant.Var n) b c e other = cc
product-node at _ b c e other = cc

-- what is over some arguments has the tree of a product's node
pub over-other : {I : Type 0} (at : I → Term) (node : Node I) (args : List Arg) (t : Term) → 1 ≤ length args → IsOver args t → t ≡ says at node
    → ((a b : I) → node ≡ variant.Pi a b → ⊥) → ⊥
over-other at node args t some over is other = over-product args t some over (λ b c e. product-node at node b c (sym is ∙ e) other)

-- products over the types of the arguments
pub over-products : (args : List Arg) (end : Term) → IsOver args (products (map (λ a. tree_of a.ty) args) end)
over-products [] end = tt
over-products (a ∷ args) end = (refl, over-products args end)
