-- The normal form of a term with two children that takes no head step.
use Rattle.std.proofs.Common.{◌≡◌, ℕ, suc, ◌+◌, ◌<◌, ◌≤◌, Bool, true, false, None, inr, [], ◌∷◌, Result, Ok, Err, refl, sym, ap, ◌∙◌, max, cond, arith}
use Rattle.std.proofs.lemmas.Bool.Decides.{nat_tests}
use Rattle.theory.specs.Terms.{Term, height}
use Rattle.theory.specs.Signatures.{Signature}
use Rattle.theory.specs.SignatureScopes.{IsScoped}
use Rattle.theory.proofs.ScopedTerms.{scoped-pi, scoped-lam, scoped-app, scoped_over_more}
use Rattle.core_terms.specs.Answers.{Spent, is_low, bounded, and_next}
use Rattle.core_terms.specs.declared.stop.Stop.{Stop}
use Rattle.core_terms.specs.declared.stop.Stop.TheVariants.{Deep}
use Rattle.core_terms.proofs.Placing.{bounded-high}
use Rattle.kernel_reduce.specs.Reduction.{answered, normal_children, normal_of, whnf_of, with_children}
use Rattle.kernel_reduce.specs.Steps.{step_of}
use Rattle.term_pool.specs.Held.{Held, AddsParts, Makes, IsFullFor}
use Rattle.term_pool.specs.Parts.{IsPart}
use Rattle.store_reduce.specs.Additions.{AddsOnly, IsFullOf}
use Rattle.store_reduce.specs.Formed.{IsNormalPart}
use Rattle.store_reduce.specs.Formers.{form_of}
use Rattle.store_reduce.specs.Runs.{RunsIn}
use Rattle.store_reduce.specs.declared.form.Former.{Former}
use Rattle.store_reduce.specs.declared.form.Former.TheVariants.{Pi, Lam, App}
use Rattle.store_reduce.proofs.Adding.{adds-parts, lacks-parts}
use Rattle.store_reduce.proofs.FormedParts.{first-formed}
use Rattle.store_reduce.proofs.PlaceLaws.{at-rests}
use Rattle.store_reduce.proofs.Wholes.{whole_is}

bounded-low : (t : Term) → height t ≤ 2000 → bounded t ≡ Ok t
bounded-low t low = by_case (is_low t) refl
  where
    by_case : (b : Bool) → is_low t ≡ b → bounded t ≡ Ok t
    by_case true e = ap (λ b. cond b (Ok t) (Err Deep)) e
    by_case false e = absurd (grind (arith, nat_tests))

pub children-of : (normal : Term → ℕ → Spent Term) (former : Former) (a b : Term) (left : ℕ)
    → normal_children normal (form_of former a b) left ≡ with_children (form_of former) (normal a) (normal b) left
children-of normal Pi a b left = refl
children-of normal Lam a b left = refl
children-of normal App a b left = refl

-- the head form, and then its children
pub normal-goes : (S : Signature) (delta : Bool) (room less : ℕ) (t u : Term) (left rest : ℕ) → room ≡ less + 1 → answered (Ok u) rest ≡ whnf_of S delta left t
    → normal_children (normal_of S delta less) u rest ≡ normal_of S delta room t left
normal-goes S delta room less t u left rest is e =
    let one : suc less ≡ room = omega (arith, is) in
    ap (λ (s : Spent Term). and_next s (normal_children (normal_of S delta less))) e ∙ ap (λ k. normal_of S delta k t left) one

pub form-height : (former : Former) (a b : Term) → height (form_of former a b) ≡ 1 + max (height a) (height b)
form-height Pi a b = refl
form-height Lam a b = refl
form-height App a b = refl

-- the children are scoped with one variable more
pub form-scoped : (S : Signature) (n : ℕ) (former : Former) (a b : Term) → IsScoped S n (form_of former a b) → IsScoped S (n + 1) a × IsScoped S (n + 1) b
form-scoped S n Pi a b h = let k = scoped-pi h in (scoped_over_more S n (n + 1) a (omega arith) k.0, k.1)
form-scoped S n Lam a b h = let k = scoped-lam h in (scoped_over_more S n (n + 1) a (omega arith) k.0, k.1)
form-scoped S n App a b h = let k = scoped-app h in (scoped_over_more S n (n + 1) a (omega arith) k.0, scoped_over_more S n (n + 1) b (omega arith) k.1)

-- from the normal forms of the children
pub pair-children : (form : Term → Term → Term) (first second : ℕ → Spent Term) (left r1 r2 : ℕ) (x y : Term) → answered (Ok x) r1 ≡ first left → answered (Ok y) r2 ≡ second r1
    → with_children form first second left ≡ answered (bounded (form x y)) r2
pair-children form first second left r1 r2 x y e f =
    sym (ap (λ (s : Spent Term). and_next s (λ a rest. and_next (second rest) (λ b end. answered (bounded (form a b)) end))) e)
    ∙ sym (ap (λ (s : Spent Term). and_next s (λ b end. answered (bounded (form x b)) end)) f)

-- a low term is made as it is meant, unless there was no memory or no room
pub makes-bounded_in : {I : Type 0} (held : Held I) (result : Result I Stop) (meant : Term) (left : ℕ) → height meant ≤ 2000 → Makes held result meant
    → RunsIn held.tree result left (answered (bounded meant) left)
makes-bounded_in held (Ok id) meant left low h = ap (λ t. answered (Ok t) left) h.1 ∙ sym (ap (λ r. answered r left) (bounded-low meant low))
makes-bounded_in held (Err e) meant left low h = λ no_memory no_room. let k = h no_memory no_room in absurd (omega (arith, k.1))

-- the answer for two children, where the term of their normal forms is too high
pub pair-deep : (form : Term → Term → Term) (first second : ℕ → Spent Term) (left r1 r2 : ℕ) (x y : Term) → answered (Ok x) r1 ≡ first left → answered (Ok y) r2 ≡ second r1
    → 2000 < height (form x y) → answered (Err Deep) r2 ≡ with_children form first second left
pair-deep form first second left r1 r2 x y e f high =
    sym (pair-children form first second left r1 r2 x y e f ∙ ap (λ r. answered r r2) (bounded-high (form x y) high))

module _ (S : Signature) (delta : Bool) (room : ℕ) (former : Former) (a b : Term) (rests : step_of S delta (form_of former a b) ≡ None) (low : height (form_of former a b) ≤ 2000) where
  pub pair-normal : (left r1 r2 : ℕ) (x y : Term) → answered (Ok x) r1 ≡ normal_of S delta room a left → answered (Ok y) r2 ≡ normal_of S delta room b r1
      → height (form_of former x y) ≤ 2000 → normal_of S delta (suc room) (form_of former a b) left ≡ answered (Ok (form_of former x y)) r2
  pair-normal left r1 r2 x y e f fits =
      let zero_more : 0 + height (form_of former a b) ≤ 2000 = omega arith in
      ap (λ (s : Spent Term). and_next s (normal_children (normal_of S delta room)))
      (whole_is S delta left (form_of former a b) ∙ sym (at-rests S delta 0 left (form_of former a b) zero_more rests))
      ∙ (children-of (normal_of S delta room) former a b left
      ∙ (pair-children (form_of former) (normal_of S delta room a) (normal_of S delta room b) left r1 r2 x y e f
      ∙ ap (λ r. answered r r2) (bounded-low (form_of former x y) fits)))

  module _ (left r1 r2 : ℕ) (x y : Term) (e : answered (Ok x) r1 ≡ normal_of S delta room a left) (f : answered (Ok y) r2 ≡ normal_of S delta room b r1)
      (fits : height (form_of former x y) ≤ 2000) where
    made-part : (z : Term) → IsPart z (form_of former x y) → IsNormalPart S delta (form_of former a b ∷ []) z
    made-part z h =
        inr (record {
          whole = form_of former a b;
          formed = first-formed S delta (form_of former a b) [];
          form = form_of former x y;
          room = suc room;
          left = left;
          rest = r2;
          normal = pair-normal left r1 r2 x y e f fits;
          part = h;
        })

    pub made-adds : {I : Type 0} (old new : Held I) → AddsParts old new (form_of former x y) → AddsOnly (IsNormalPart S delta (form_of former a b ∷ [])) old new
    made-adds old new h = adds-parts (IsNormalPart S delta (form_of former a b ∷ [])) (form_of former x y) old new made-part h

    pub made-full : {I A : Type 0} (held : Held I) (result : Result A Stop) → IsFullFor held result (form_of former x y)
        → IsFullOf (IsNormalPart S delta (form_of former a b ∷ [])) held result
    made-full held (Ok id) h = tt
    made-full held (Err s) h = λ is. lacks-parts (IsNormalPart S delta (form_of former a b ∷ [])) (form_of former x y) held made-part (h is)
