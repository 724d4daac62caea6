-- The ends of printed terms: with a term all that is below it is among them, and what is below it is lower.
use Rattle.std.proofs.Common.{◌≡◌, ◌⊎◌, inl, inr, ℕ, ◌<◌, ◌≤◌, max, Bool, true, false, List, [], ◌∷◌, ◌++◌, refl, ap, sym, ◌∙◌, subst, append-nil, arith}
use Rattle.std.proofs.lemmas.Bool.{false≢true}
use Rattle.theory.specs.Terms.{Term, height}
use Rattle.theory.specs.Terms.Term.{Var, Sort, Pi, Lam, App, Let, Const, Fam, Con, Elim, AxiomK}
use Rattle.shared_text.specs.PrintedTerms.{is_among, ends_of, joined}
use Rattle.shared_text.proofs.Joined.{IsIn, in-left, in-right, in-either, is-only, joined-members, among-append}

-- the ends of what is below a term
abbrev pub inner : Term → List Term
inner (Pi a b) = ends_of false a ++ ends_of false b
inner (Lam a b) = ends_of false a ++ ends_of false b
inner (Let a t b) = ends_of false a ++ ends_of false t ++ ends_of false b
inner (App f a) = ends_of true f ++ ends_of false a
inner t = []

pub ends-inner : (t : Term) → ends_of false t ≡ inner t ++ t ∷ []
ends-inner (Var n) = refl
ends-inner (Sort i) = refl
ends-inner (Pi a b) = refl
ends-inner (Lam a b) = refl
ends-inner (App f a) = refl
ends-inner (Let a t b) = refl
ends-inner (Const n) = refl
ends-inner (Fam n) = refl
ends-inner (Con n c) = refl
ends-inner (Elim n m) = refl
ends-inner (AxiomK i m) = refl

-- of the function of an application: of a shorter application only what is below it
pub shorter-ends : (f a : Term) → ends_of true (App f a) ≡ inner (App f a)
shorter-ends f a = append-nil (ends_of true f ++ ends_of false a)

-- ---- with a term all that is below it

abbrev pub IsClosed : List Term → Type 0
IsClosed ts = (x u : Term) → IsIn x ts → IsIn u (ends_of false x) → IsIn u ts

pub closed-append : (xs ys : List Term) → IsClosed xs → IsClosed ys → IsClosed (xs ++ ys)
closed-append xs ys one other x u h below = by (in-either xs ys x h)
  where
    by : IsIn x xs ⊎ IsIn x ys → IsIn u (xs ++ ys)
    by (inl e) = in-left xs ys u (one x u e below)
    by (inr e) = in-right xs ys u (other x u e below)

pub closed-joined : (there xs : List Term) → IsClosed there → IsClosed xs → IsClosed (joined there xs)
closed-joined there xs one other x u h below =
    joined-members there xs u ∙ (sym (among-append there xs u) ∙ closed-append there xs one other x u (among-append there xs x ∙ (sym (joined-members there xs x) ∙ h)) below)

closed-with : (xs : List Term) (t : Term) → IsClosed xs → ends_of false t ≡ xs ++ t ∷ [] → IsClosed (xs ++ t ∷ [])
closed-with xs t one is x u h below = by (in-either xs (t ∷ []) x h)
  where
    by : IsIn x xs ⊎ IsIn x (t ∷ []) → IsIn u (xs ++ t ∷ [])
    by (inl e) = in-left xs (t ∷ []) u (one x u e below)
    by (inr e) = subst (IsIn u) is (subst (λ y. IsIn u (ends_of false y)) (is-only x t e) below)

closed-none : IsClosed []
closed-none x u h below = h

whole : (t : Term) → IsClosed (inner t) → IsClosed (ends_of false t)
whole t one = subst IsClosed (sym (ends-inner t)) (closed-with (inner t) t one (ends-inner t))

pub closed-ends : (is_function : Bool) (t : Term) → IsClosed (ends_of is_function t)
closed-ends b (Var n) = whole (Var n) closed-none
closed-ends b (Sort i) = whole (Sort i) closed-none
closed-ends b (Pi a c) = whole (Pi a c) (closed-append (ends_of false a) (ends_of false c) (closed-ends false a) (closed-ends false c))
closed-ends b (Lam a c) = whole (Lam a c) (closed-append (ends_of false a) (ends_of false c) (closed-ends false a) (closed-ends false c))
closed-ends true (App f a) =
    subst IsClosed (sym (shorter-ends f a)) (closed-append (ends_of true f) (ends_of false a) (closed-ends true f) (closed-ends false a))
closed-ends false (App f a) = whole (App f a) (closed-append (ends_of true f) (ends_of false a) (closed-ends true f) (closed-ends false a))
closed-ends b (Let a t c) =
    whole (Let a t c)
    (closed-append (ends_of false a ++ ends_of false t) (ends_of false c)
    (closed-append (ends_of false a) (ends_of false t) (closed-ends false a) (closed-ends false t)) (closed-ends false c))
closed-ends b (Const n) = whole (Const n) closed-none
closed-ends b (Fam n) = whole (Fam n) closed-none
closed-ends b (Con n c) = whole (Con n c) closed-none
closed-ends b (Elim n m) = whole (Elim n m) closed-none
closed-ends b (AxiomK i m) = whole (AxiomK i m) closed-none

-- ---- what is below a term is lower

abbrev AreBelow : ℕ → List Term → Type 0
AreBelow n ts = (x : Term) → IsIn x ts → height x ≤ n

below-append : (n m k : ℕ) (xs ys : List Term) → n ≤ k → m ≤ k → AreBelow n xs → AreBelow m ys → AreBelow k (xs ++ ys)
below-append n m k xs ys small low one other x h = by (in-either xs ys x h)
  where
    by : IsIn x xs ⊎ IsIn x ys → height x ≤ k
    by (inl e) = let below : height x ≤ n = one x e in omega arith
    by (inr e) = let below : height x ≤ m = other x e in omega arith

below-none : (n : ℕ) → AreBelow n []
below-none n x h = absurd (false≢true h)

below-whole : (t : Term) (n : ℕ) → n < height t → AreBelow n (inner t) → AreBelow (height t) (ends_of false t)
below-whole t n low one x h = by (in-either (inner t) (t ∷ []) x (subst (IsIn x) (ends-inner t) h))
  where
    by : IsIn x (inner t) ⊎ IsIn x (t ∷ []) → height x ≤ height t
    by (inl e) = let below : height x ≤ n = one x e in omega arith
    by (inr e) = let is : height x ≡ height t = ap height (is-only x t e) in omega arith

two-low : (is_function : Bool) (a b : Term) → AreBelow (height a) (ends_of is_function a) → AreBelow (height b) (ends_of false b) → AreBelow (max (height a) (height b)) (ends_of is_function a ++ ends_of false b)
two-low f a b one other =
    below-append (height a) (height b) (max (height a) (height b)) (ends_of f a) (ends_of false b) (omega arith) (omega arith) one other

three-low : (a t b : Term) → AreBelow (height a) (ends_of false a) → AreBelow (height t) (ends_of false t) → AreBelow (height b) (ends_of false b)
    → AreBelow (max (height a) (max (height t) (height b))) (ends_of false a ++ ends_of false t ++ ends_of false b)
three-low a t b one other third =
    below-append (max (height a) (height t)) (height b) (max (height a) (max (height t) (height b))) (ends_of false a ++ ends_of false t) (ends_of false b) (omega arith) (omega arith)
    (two-low false a t one other) third

shorter-low : (f a : Term) → AreBelow (max (height f) (height a)) (ends_of true f ++ ends_of false a) → AreBelow (height (App f a)) (ends_of true (App f a))
shorter-low f a one x h =
    let below : height x ≤ max (height f) (height a) = one x (subst (IsIn x) (shorter-ends f a) h) in omega arith

ends-low : (is_function : Bool) (t : Term) → AreBelow (height t) (ends_of is_function t)
ends-low b (Var n) = below-whole (Var n) 0 (omega arith) (below-none 0)
ends-low b (Sort i) = below-whole (Sort i) 0 (omega arith) (below-none 0)
ends-low b (Pi a c) = below-whole (Pi a c) (max (height a) (height c)) (omega arith) (two-low false a c (ends-low false a) (ends-low false c))
ends-low b (Lam a c) = below-whole (Lam a c) (max (height a) (height c)) (omega arith) (two-low false a c (ends-low false a) (ends-low false c))
ends-low true (App f a) = shorter-low f a (two-low true f a (ends-low true f) (ends-low false a))
ends-low false (App f a) = below-whole (App f a) (max (height f) (height a)) (omega arith) (two-low true f a (ends-low true f) (ends-low false a))
ends-low b (Let a t c) =
    below-whole (Let a t c) (max (height a) (max (height t) (height c))) (omega arith) (three-low a t c (ends-low false a) (ends-low false t) (ends-low false c))
ends-low b (Const n) = below-whole (Const n) 0 (omega arith) (below-none 0)
ends-low b (Fam n) = below-whole (Fam n) 0 (omega arith) (below-none 0)
ends-low b (Con n c) = below-whole (Con n c) 0 (omega arith) (below-none 0)
ends-low b (Elim n m) = below-whole (Elim n m) 0 (omega arith) (below-none 0)
ends-low b (AxiomK i m) = below-whole (AxiomK i m) 0 (omega arith) (below-none 0)

inner-low : (t x : Term) → IsIn x (inner t) → height x < height t
inner-low (Pi a b) x h = let below : height x ≤ max (height a) (height b) = two-low false a b (ends-low false a) (ends-low false b) x h in omega arith
inner-low (Lam a b) x h = let below : height x ≤ max (height a) (height b) = two-low false a b (ends-low false a) (ends-low false b) x h in omega arith
inner-low (App f a) x h = let below : height x ≤ max (height f) (height a) = two-low true f a (ends-low true f) (ends-low false a) x h in omega arith
inner-low (Let a t b) x h =
    let below : height x ≤ max (height a) (max (height t) (height b)) = three-low a t b (ends-low false a) (ends-low false t) (ends-low false b) x h in omega arith
inner-low (Var n) x h = absurd (false≢true h)
inner-low (Sort i) x h = absurd (false≢true h)
inner-low (Const n) x h = absurd (false≢true h)
inner-low (Fam n) x h = absurd (false≢true h)
inner-low (Con n c) x h = absurd (false≢true h)
inner-low (Elim n m) x h = absurd (false≢true h)
inner-low (AxiomK i m) x h = absurd (false≢true h)

-- no term is below itself
pub not-inner : (t : Term) → is_among (inner t) t ≡ false
not-inner t = go (is_among (inner t) t) refl
  where
    go : (b : Bool) → is_among (inner t) t ≡ b → is_among (inner t) t ≡ false
    go true e = let low : height t < height t = inner-low t t e in absurd (omega arith)
    go false e = e
