-- Printed terms are the written ones and all printed children below them; a shared one stands at two or more places.
use Rattle.std.proofs.Common.{◌≡◌, ◌⊎◌, inl, inr, ◌↔◌, ◌<◌, ◌≤◌, Bool, true, false, cond, ◌&&◌, ◌||◌, nat_le, nat_lt, List, [], ◌∷◌, ◌++◌, flat_map, filter, refl, ap, sym, ◌∙◌, subst, arith}
use Rattle.std.proofs.lemmas.Bool.{and_from, and_parts, false≢true}
use Rattle.std.proofs.lemmas.Bool.Decides.{nat_tests}
use Rattle.theory.specs.Terms.{Term, height}
use Rattle.theory.specs.Terms.Term.{Var, Sort, Pi, Lam, App, Let, Const, Fam, Con, Elim, AxiomK}
use Rattle.shared_text.specs.BlockLaws.{IsPrinted, IsWritten, IsChild, PrintedTermsAreBelow, SharedTermsStandTwice}
use Rattle.shared_text.specs.PrintedTerms.{same, is_among, ends_of, is_shared, places, printed_children, printed_terms, shared_terms, spine_members, times}
use Rattle.shared_text.proofs.Joined.{IsIn, same-is, in-left, in-right, in-either, by-either, in-last, is-only, joined-members}
use Rattle.shared_text.proofs.PrintedEnds.{inner, ends-inner, shorter-ends, IsClosed, closed-ends, closed-append}

-- ---- children are below

pub ends-last : (t : Term) → IsIn t (ends_of false t)
ends-last t = subst (IsIn t) (sym (ends-inner t)) (in-last (inner t) t)

members-below : (f u : Term) → IsIn u (spine_members f) → IsIn u (ends_of true f)
members-below (App f a) u h =
    subst (IsIn u) (sym (shorter-ends f a))
    (by-either (spine_members f) (a ∷ []) u h (λ e. in-left (ends_of true f) (ends_of false a) u (members-below f u e))
    (λ e. in-right (ends_of true f) (ends_of false a) u (subst (λ x. IsIn x (ends_of false a)) (sym (is-only u a e)) (ends-last a))))
members-below (Var n) u h = h
members-below (Sort i) u h = h
members-below (Pi a b) u h = subst (λ x. IsIn x (ends_of false (Pi a b))) (sym (is-only u (Pi a b) h)) (ends-last (Pi a b))
members-below (Lam a b) u h = subst (λ x. IsIn x (ends_of false (Lam a b))) (sym (is-only u (Lam a b) h)) (ends-last (Lam a b))
members-below (Let a t b) u h = subst (λ x. IsIn x (ends_of false (Let a t b))) (sym (is-only u (Let a t b) h)) (ends-last (Let a t b))
members-below (Const n) u h = h
members-below (Fam n) u h = h
members-below (Con n c) u h = h
members-below (Elim n m) u h = h
members-below (AxiomK i m) u h = h

two-below : (a b u : Term) → IsIn u (a ∷ b ∷ []) → IsIn u (ends_of false a ++ ends_of false b)
two-below a b u h = by (in-either (a ∷ []) (b ∷ []) u h)
  where
    by : IsIn u (a ∷ []) ⊎ IsIn u (b ∷ []) → IsIn u (ends_of false a ++ ends_of false b)
    by (inl e) = in-left (ends_of false a) (ends_of false b) u (subst (λ x. IsIn x (ends_of false a)) (sym (is-only u a e)) (ends-last a))
    by (inr e) = in-right (ends_of false a) (ends_of false b) u (subst (λ x. IsIn x (ends_of false b)) (sym (is-only u b e)) (ends-last b))

children-below : (t u : Term) → IsIn u (printed_children t) → IsIn u (inner t)
children-below (Pi a b) u h = two-below a b u h
children-below (Lam a b) u h = two-below a b u h
children-below (App f a) u h = subst (IsIn u) (shorter-ends f a) (members-below (App f a) u h)
children-below (Let a t b) u h = by (in-either (a ∷ t ∷ []) (b ∷ []) u h)
  where
    by : IsIn u (a ∷ t ∷ []) ⊎ IsIn u (b ∷ []) → IsIn u (ends_of false a ++ ends_of false t ++ ends_of false b)
    by (inl e) = in-left (ends_of false a ++ ends_of false t) (ends_of false b) u (two-below a t u e)
    by (inr e) = in-right (ends_of false a ++ ends_of false t) (ends_of false b) u (subst (λ x. IsIn x (ends_of false b)) (sym (is-only u b e)) (ends-last b))
children-below (Var n) u h = absurd (false≢true h)
children-below (Sort i) u h = absurd (false≢true h)
children-below (Const n) u h = absurd (false≢true h)
children-below (Fam n) u h = absurd (false≢true h)
children-below (Con n c) u h = absurd (false≢true h)
children-below (Elim n m) u h = absurd (false≢true h)
children-below (AxiomK i m) u h = absurd (false≢true h)

-- ---- what is below is printed

module _ (P : Term → Type 0) (closed : (t u : Term) → P t → IsIn u (printed_children t) → P u) where
  -- where the printed children are such, so are all that are below
  abbrev Spreads : Term → Type 0
  Spreads t = ((u : Term) → IsIn u (printed_children t) → P u) → (u : Term) → IsIn u (inner t) → P u

  ends-by : (t : Term) → Spreads t → P t → (u : Term) → IsIn u (ends_of false t) → P u
  ends-by t spreads p u h = by (in-either (inner t) (t ∷ []) u (subst (IsIn u) (ends-inner t) h))
    where
      by : IsIn u (inner t) ⊎ IsIn u (t ∷ []) → P u
      by (inl e) = spreads (λ x k. closed t x p k) u e
      by (inr e) = subst P (sym (is-only u t e)) p

  function-by : (f : Term) → Spreads f → ((u : Term) → IsIn u (spine_members f) → P u) → (u : Term) → IsIn u (ends_of true f) → P u
  function-by (App g a) spreads members u h = spreads members u (subst (IsIn u) (shorter-ends g a) h)
  function-by (Var n) spreads members u h = members u h
  function-by (Sort i) spreads members u h = members u h
  function-by (Pi a b) spreads members u h = ends-by (Pi a b) spreads (members (Pi a b) (in-last [] (Pi a b))) u h
  function-by (Lam a b) spreads members u h = ends-by (Lam a b) spreads (members (Lam a b) (in-last [] (Lam a b))) u h
  function-by (Let a t b) spreads members u h = ends-by (Let a t b) spreads (members (Let a t b) (in-last [] (Let a t b))) u h
  function-by (Const n) spreads members u h = members u h
  function-by (Fam n) spreads members u h = members u h
  function-by (Con n c) spreads members u h = members u h
  function-by (Elim n m) spreads members u h = members u h
  function-by (AxiomK i m) spreads members u h = members u h

  two-by : (a b : Term) → Spreads a → Spreads b → P a → P b → (u : Term) → IsIn u (ends_of false a ++ ends_of false b) → P u
  two-by a b one other p q u h = by (in-either (ends_of false a) (ends_of false b) u h)
    where
      by : IsIn u (ends_of false a) ⊎ IsIn u (ends_of false b) → P u
      by (inl e) = ends-by a one p u e
      by (inr e) = ends-by b other q u e

  first : (a : Term) (ts : List Term) → IsIn a (a ∷ ts)
  first a ts = in-left (a ∷ []) ts a (in-last [] a)

  second : (a b : Term) (ts : List Term) → IsIn b (a ∷ b ∷ ts)
  second a b ts = in-right (a ∷ []) (b ∷ ts) b (first b ts)

  pub all-inner : (t : Term) → Spreads t
  all-inner (Pi a b) children u h =
      two-by a b (all-inner a) (all-inner b) (children a (first a (b ∷ []))) (children b (second a b [])) u h
  all-inner (Lam a b) children u h =
      two-by a b (all-inner a) (all-inner b) (children a (first a (b ∷ []))) (children b (second a b [])) u h
  all-inner (App f a) children u h =
      by-either (ends_of true f) (ends_of false a) u h
      (λ e. function-by f (all-inner f) (λ x k. children x (in-left (spine_members f) (a ∷ []) x k)) u e)
      (λ e. ends-by a (all-inner a) (children a (in-last (spine_members f) a)) u e)
  all-inner (Let a t b) children u h =
      by-either (ends_of false a ++ ends_of false t) (ends_of false b) u h
      (λ e. two-by a t (all-inner a) (all-inner t) (children a (first a (t ∷ b ∷ []))) (children t (second a t (b ∷ []))) u e)
      (λ e. ends-by b (all-inner b) (children b (in-right (a ∷ t ∷ []) (b ∷ []) b (first b []))) u e)
  all-inner (Var n) children u h = absurd (false≢true h)
  all-inner (Sort i) children u h = absurd (false≢true h)
  all-inner (Const n) children u h = absurd (false≢true h)
  all-inner (Fam n) children u h = absurd (false≢true h)
  all-inner (Con n c) children u h = absurd (false≢true h)
  all-inner (Elim n m) children u h = absurd (false≢true h)
  all-inner (AxiomK i m) children u h = absurd (false≢true h)

  pub all-ends : (ts : List Term) → ((t : Term) → IsIn t ts → P t) → (u : Term) → IsIn u (flat_map (ends_of false) ts) → P u
  all-ends [] each u h = absurd (false≢true h)
  all-ends (t ∷ ts) each u h =
      by-either (ends_of false t) (flat_map (ends_of false) ts) u h (λ e. ends-by t (all-inner t) (each t (first t ts)) u e)
      (λ e. all-ends ts (λ x k. each x (in-right (t ∷ []) ts x k)) u e)

-- ---- the printed terms

in-ends : (ts : List Term) (t : Term) → IsIn t ts → IsIn t (flat_map (ends_of false) ts)
in-ends [] t h = absurd (false≢true h)
in-ends (x ∷ ts) t h =
    by-either (x ∷ []) ts t h
    (λ e. in-left (ends_of false x) (flat_map (ends_of false) ts) t (subst (λ y. IsIn t (ends_of false y)) (is-only t x e) (ends-last t)))
    (λ e. in-right (ends_of false x) (flat_map (ends_of false) ts) t (in-ends ts t e))

all-closed : (ts : List Term) → IsClosed (flat_map (ends_of false) ts)
all-closed [] = λ x u h below. h
all-closed (t ∷ ts) = closed-append (ends_of false t) (flat_map (ends_of false) ts) (closed-ends false t) (all-closed ts)

module _ (written : List Term) where
  -- the printed terms are those that are ended
  pub as-ended : (t : Term) → is_among (printed_terms written) t ≡ is_among (flat_map (ends_of false) written) t
  as-ended t = joined-members [] (flat_map (ends_of false) written) t

  to-printed : (t : Term) → IsIn t (printed_terms written) → IsPrinted written t
  to-printed t h =
      all-ends (IsPrinted written) (λ x u p k. IsChild x u p k) written (λ x k. IsWritten x k) t (sym (as-ended t) ∙ h)

  from-printed : (t : Term) → IsPrinted written t → IsIn t (printed_terms written)
  from-printed t (IsWritten _ h) = as-ended t ∙ in-ends written t h
  from-printed u (IsChild t _ p h) =
      as-ended u
      ∙ all-closed written t u (sym (as-ended t) ∙ from-printed t p)
      (subst (IsIn u) (sym (ends-inner t)) (in-left (inner t) (t ∷ []) u (children-below t u h)))

  pub printed : (t : Term) → IsIn t (printed_terms written) ↔ IsPrinted written t
  printed t = (to-printed t, from-printed t)

pub printed_terms_are_below : PrintedTermsAreBelow
printed_terms_are_below written t = printed written t

-- ---- the shared terms

one-member : (p : Term → Bool) (x : Term) (ts : List Term) (t : Term) → is_among (filter p ts) t ≡ (is_among ts t && p t)
    → is_among (cond (p x) (x ∷ filter p ts) (filter p ts)) t ≡ ((same t x || is_among ts t) && p t)
one-member p x ts t rest = by (p x) (same t x) refl refl
  where
    as-first : (b : Bool) → p x ≡ b → same t x ≡ true → p t ≡ b
    as-first b e h = ap p (same-is t x h) ∙ e

    none : (b : Bool) → (b && false) ≡ false
    none true = refl
    none false = refl

    by : (b c : Bool) → p x ≡ b → same t x ≡ c → is_among (cond b (x ∷ filter p ts) (filter p ts)) t ≡ ((c || is_among ts t) && p t)
    by true true e h = rw h (sym (as-first true e h))
    by true false e h = rw h rest
    by false true e h = rest ∙ (ap (λ b. is_among ts t && b) (as-first false e h) ∙ (none (is_among ts t) ∙ sym (as-first false e h)))
    by false false e h = rest

pub filter-members : (p : Term → Bool) (ts : List Term) (t : Term) → is_among (filter p ts) t ≡ (is_among ts t && p t)
filter-members p [] t = refl
filter-members p (x ∷ ts) t = one-member p x ts t (filter-members p ts t)

-- what a test of heights and places says
shared-test : (written : List Term) (t : Term) → is_shared written t ≡ true → (1 < height t) × (2 ≤ times t (places written))
shared-test written t h =
    let parts = and_parts (nat_lt 1 (height t)) (nat_le 2 (times t (places written))) h in
    let high : nat_lt 1 (height t) ≡ true = parts.0 in
    let often : nat_le 2 (times t (places written)) ≡ true = parts.1 in
    (grind (arith, nat_tests), grind (arith, nat_tests))

test-shared : (written : List Term) (t : Term) → 1 < height t → 2 ≤ times t (places written) → is_shared written t ≡ true
test-shared written t high often = and_from (nat_lt 1 (height t)) (nat_le 2 (times t (places written))) (grind (arith, nat_tests)) (grind (arith, nat_tests))

pub shared_terms_stand_twice : SharedTermsStandTwice
shared_terms_stand_twice written t = (to, from)
  where
    members : is_among (shared_terms written) t ≡ (is_among (printed_terms written) t && is_shared written t)
    members = filter-members (is_shared written) (printed_terms written) t

    to : IsIn t (shared_terms written) → IsPrinted written t × (1 < height t) × (2 ≤ times t (places written))
    to h =
        let parts = and_parts (is_among (printed_terms written) t) (is_shared written t) (sym members ∙ h) in
        let tests = shared-test written t parts.1 in
        ((printed written t).0 parts.0, tests.0, tests.1)

    from : IsPrinted written t × (1 < height t) × (2 ≤ times t (places written)) → IsIn t (shared_terms written)
    from h =
        members
        ∙ and_from (is_among (printed_terms written) t) (is_shared written t) ((printed written t).1 h.0) (test-shared written t h.1 h.2)
