-- Among printed terms, and among shared terms, those that are below a term come before it.
use Rattle.std.proofs.Common.{◌≡◌, ◌⊎◌, inl, inr, ℕ, ◌+◌, suc, Bool, true, false, cond, not, ◌||◌, nat_lt, List, [], ◌∷◌, ◌++◌, length, map, filter, flat_map, slice_get, Some, None, refl, ap, sym, ◌∙◌, subst, append_assoc, append-nil, arith}
use Rattle.std.specs.List.{position_or_len}
use Rattle.std.proofs.lemmas.Bool.{false≢true, true≢false}
use Rattle.std.proofs.lemmas.Bool.Decides.{nat_tests}
use Rattle.std.proofs.lemmas.Option.{none-some}
use Rattle.theory.proofs.Lists.{some_is}
use Rattle.theory.specs.Terms.{Term}
use Rattle.theory.specs.Terms.Term.{Var, Sort, Pi, Lam, App, Let, Const, Fam, Con, Elim, AxiomK}
use Rattle.shared_text.specs.PrintedTerms.{same, is_among, joined, ends_of, is_shared, number_in, printed_terms, shared_terms}
use Rattle.shared_text.proofs.Joined.{IsIn, same-is, with-there, with-new, in-left, in-right, in-either, is-only, joined-append, joined-members, among-append}
use Rattle.shared_text.proofs.PrintedEnds.{inner, ends-inner, shorter-ends}

module _ (p : Term → Bool) where
  -- of the terms after those that are there: what is below one of them and passes the test comes before it
  abbrev pub AreReady : List Term → List Term → Type 0
  AreReady there [] = Unit {0}
  AreReady there (t ∷ ts) = ((u : Term) → IsIn u (inner t) → p u ≡ true → IsIn u there) × AreReady (there ++ t ∷ []) ts

  ready-append : (there xs ys : List Term) → AreReady there xs → AreReady (there ++ xs) ys → AreReady there (xs ++ ys)
  ready-append there [] ys one other = subst (λ ts. AreReady ts ys) (append-nil there) other
  ready-append there (x ∷ xs) ys one other =
      (one.0, ready-append (there ++ x ∷ []) xs ys one.1 (subst (λ ts. AreReady ts ys) (sym (append_assoc there (x ∷ []) xs)) other))

  -- what joining adds is ready
  record Adds (there xs : List Term) : Type 0 where
    pub added : List Term
    pub whole : joined there xs ≡ there ++ added
    pub ready : AreReady there added

  adds-none : (there : List Term) → Adds there []
  adds-none there = record { added = []; whole = sym (append-nil there); ready = _ }

  adds-then : (there xs ys : List Term) → Adds there xs → Adds (joined there xs) ys → Adds there (xs ++ ys)
  adds-then there xs ys one other =
      record {
        added = one.added ++ other.added;
        whole = joined-append there xs ys ∙ (other.whole ∙ (ap (λ ts. ts ++ other.added) one.whole ∙ append_assoc there one.added other.added));
        ready = ready-append there one.added other.added one.ready (subst (λ ts. AreReady ts other.added) one.whole other.ready);
      }

  adds-one : (there : List Term) (t : Term) → ((u : Term) → IsIn u (inner t) → p u ≡ true → IsIn u there) → Adds there (t ∷ [])
  adds-one there t below = by (is_among there t) refl
    where
      by : (b : Bool) → is_among there t ≡ b → Adds there (t ∷ [])
      by true h = record { added = []; whole = with-there there t h ∙ sym (append-nil there); ready = _ }
      by false h = record { added = t ∷ []; whole = with-new there t h; ready = (below, _) }

  joined-has : (there xs : List Term) (u : Term) → IsIn u xs → IsIn u (joined there xs)
  joined-has there xs u h = joined-members there xs u ∙ (sym (among-append there xs u) ∙ in-right there xs u h)

  -- what is below the term, and then the term
  adds-whole : (t : Term) → ((there : List Term) → Adds there (inner t)) → (there : List Term) → Adds there (ends_of false t)
  adds-whole t below there =
      subst (Adds there) (sym (ends-inner t))
      (adds-then there (inner t) (t ∷ []) (below there) (adds-one (joined there (inner t)) t (λ u h passes. joined-has there (inner t) u h)))

  adds-function : (f : Term) → ((there : List Term) → Adds there (inner f)) → (there : List Term) → Adds there (ends_of true f)
  adds-function (App g a) below there = subst (Adds there) (sym (shorter-ends g a)) (below there)
  adds-function (Var n) below there = adds-whole (Var n) below there
  adds-function (Sort i) below there = adds-whole (Sort i) below there
  adds-function (Pi a b) below there = adds-whole (Pi a b) below there
  adds-function (Lam a b) below there = adds-whole (Lam a b) below there
  adds-function (Let a t b) below there = adds-whole (Let a t b) below there
  adds-function (Const n) below there = adds-whole (Const n) below there
  adds-function (Fam n) below there = adds-whole (Fam n) below there
  adds-function (Con n c) below there = adds-whole (Con n c) below there
  adds-function (Elim n m) below there = adds-whole (Elim n m) below there
  adds-function (AxiomK i m) below there = adds-whole (AxiomK i m) below there

  adds-two : (a b : Term) → ((there : List Term) → Adds there (inner a)) → ((there : List Term) → Adds there (inner b))
      → (there : List Term) → Adds there (ends_of false a ++ ends_of false b)
  adds-two a b one other there =
      adds-then there (ends_of false a) (ends_of false b) (adds-whole a one there) (adds-whole b other (joined there (ends_of false a)))

  adds-inner : (t : Term) (there : List Term) → Adds there (inner t)
  adds-inner (Pi a b) there = adds-two a b (adds-inner a) (adds-inner b) there
  adds-inner (Lam a b) there = adds-two a b (adds-inner a) (adds-inner b) there
  adds-inner (App f a) there =
      adds-then there (ends_of true f) (ends_of false a) (adds-function f (adds-inner f) there) (adds-whole a (adds-inner a) (joined there (ends_of true f)))
  adds-inner (Let a t b) there =
      adds-then there (ends_of false a ++ ends_of false t) (ends_of false b) (adds-two a t (adds-inner a) (adds-inner t) there)
      (adds-whole b (adds-inner b) (joined there (ends_of false a ++ ends_of false t)))
  adds-inner (Var n) there = adds-none there
  adds-inner (Sort i) there = adds-none there
  adds-inner (Const n) there = adds-none there
  adds-inner (Fam n) there = adds-none there
  adds-inner (Con n c) there = adds-none there
  adds-inner (Elim n m) there = adds-none there
  adds-inner (AxiomK i m) there = adds-none there

  adds-all : (ts there : List Term) → Adds there (flat_map (ends_of false) ts)
  adds-all [] there = adds-none there
  adds-all (t ∷ ts) there =
      adds-then there (ends_of false t) (flat_map (ends_of false) ts) (adds-whole t (adds-inner t) there) (adds-all ts (joined there (ends_of false t)))

  printed-ready : (written : List Term) → AreReady [] (printed_terms written)
  printed-ready written =
      let adds = adds-all written [] in
      subst (AreReady []) (sym adds.whole) adds.ready

  -- ---- those that pass the test

  -- each that is there and passes is among these
  abbrev Covers : List Term → List Term → Type 0
  Covers some there = (u : Term) → p u ≡ true → IsIn u there → IsIn u some

  covers-one : (some there : List Term) (x : Term) → Covers some there → Covers (some ++ x ∷ []) (there ++ x ∷ [])
  covers-one some there x covers u passes h = by (in-either there (x ∷ []) u h)
    where
      by : IsIn u there ⊎ IsIn u (x ∷ []) → IsIn u (some ++ x ∷ [])
      by (inl e) = in-left some (x ∷ []) u (covers u passes e)
      by (inr e) = in-right some (x ∷ []) u e

  covers-more : (some there : List Term) (x : Term) → p x ≡ false → Covers some there → Covers some (there ++ x ∷ [])
  covers-more some there x fails covers u passes h = by (in-either there (x ∷ []) u h)
    where
      by : IsIn u there ⊎ IsIn u (x ∷ []) → IsIn u some
      by (inl e) = covers u passes e
      by (inr e) = absurd (true≢false (sym passes ∙ (ap p (is-only u x e) ∙ fails)))

  ready-filter : (some there ts : List Term) → Covers some there → AreReady there ts → AreReady some (filter p ts)
  ready-filter some there [] covers ready = _
  ready-filter some there (x ∷ ts) covers ready =
      by (p x) refl (ready-filter (some ++ x ∷ []) (there ++ x ∷ []) ts (covers-one some there x covers) ready.1)
      (λ h. ready-filter some (there ++ x ∷ []) ts (covers-more some there x h covers) ready.1)
    where
      by : (b : Bool) → p x ≡ b → AreReady (some ++ x ∷ []) (filter p ts) → (p x ≡ false → AreReady some (filter p ts)) → AreReady some (cond b (x ∷ filter p ts) (filter p ts))
      by true h more less = (λ u below passes. covers u passes (ready.0 u below passes), more)
      by false h more less = less h

-- shared terms that are below a shared term come before it
pub shared-ready : (written : List Term) → AreReady (is_shared written) [] (shared_terms written)
shared-ready written =
    ready-filter (is_shared written) [] [] (printed_terms written) (λ u passes h. h) (printed-ready (is_shared written) written)

-- ---- numbers

-- the text of a term at its place
place-text : (text : Term → List ℕ) (done rest : List Term) (u : Term) → IsIn u done
    → slice_get (map text done) (position_or_len (same u) (done ++ rest)) ≡ Some (text u)
place-text text [] rest u h = absurd (false≢true h)
place-text text (x ∷ done) rest u h = by (same u x) refl h (λ there. place-text text done rest u there)
  where
    place : ℕ
    place = position_or_len (same u) (done ++ rest)

    by : (b : Bool) → same u x ≡ b → (b || is_among done u) ≡ true
        → (IsIn u done → slice_get (map text done) place ≡ Some (text u)) → slice_get (text x ∷ map text done) (cond (not b) (1 + place) 0) ≡ Some (text u)
    by true e there more = ap (λ y. Some (text y)) (sym (same-is u x e))
    by false e there more =
        let next : 1 + place ≡ suc place = omega arith in
        ap (slice_get (text x ∷ map text done)) next ∙ more there

some-number : (b : Bool) (n m : ℕ) → cond b (Some n) None ≡ Some m → n ≡ m
some-number true n m is = some_is is
some-number false n m is = absurd (none-some m is)

-- the number of a term is that of its text
pub number-text : (text : Term → List ℕ) (done rest : List Term) (u : Term) (m : ℕ) → IsIn u done → number_in (done ++ rest) u ≡ Some m
    → slice_get (map text done) m ≡ Some (text u)
number-text text done rest u m h is =
    let place = position_or_len (same u) (done ++ rest) in
    let at : place ≡ m = some-number (nat_lt place (length (done ++ rest))) place m is in
    subst (λ k. slice_get (map text done) k ≡ Some (text u)) at (place-text text done rest u h)

numbered-within : (ts : List Term) (u : Term) (m : ℕ) → number_in ts u ≡ Some m → nat_lt (position_or_len (same u) ts) (length ts) ≡ true
numbered-within ts u m is = by (nat_lt (position_or_len (same u) ts) (length ts)) is
  where
    by : (b : Bool) → cond b (Some (position_or_len (same u) ts)) None ≡ Some m → b ≡ true
    by true e = refl
    by false e = absurd (none-some m e)

there-within : (ts : List Term) (u : Term) → nat_lt (position_or_len (same u) ts) (length ts) ≡ true → IsIn u ts
there-within [] u h = h
there-within (x ∷ ts) u h = by (same u x) refl h (there-within ts u)
  where
    by : (b : Bool) → same u x ≡ b → nat_lt (cond (not b) (1 + position_or_len (same u) ts) 0) (suc (length ts)) ≡ true
        → (nat_lt (position_or_len (same u) ts) (length ts) ≡ true → IsIn u ts) → (b || is_among ts u) ≡ true
    by true e low rest = refl
    by false e low rest =
        let less : nat_lt (position_or_len (same u) ts) (length ts) ≡ true = grind (arith, nat_tests) in rest less

-- what has a number is there
pub numbered-there : (ts : List Term) (u : Term) (m : ℕ) → number_in ts u ≡ Some m → IsIn u ts
numbered-there ts u m is = there-within ts u (numbered-within ts u m is)
