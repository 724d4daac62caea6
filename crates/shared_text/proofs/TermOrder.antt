-- Printed and shared terms come each once, in the order in which they are first ended.
use Rattle.std.proofs.Common.{◌≡◌, ◌≢◌, Bool, true, false, ◌||◌, List, [], ◌∷◌, ◌++◌, flat_map, All, AllPairs, refl, ap, sym, ◌∙◌, subst, append_assoc, arith}
use Rattle.std.proofs.lemmas.Bool.{false≢true, true≢false}
use Rattle.std.proofs.lemmas.List.Elements.{All-cons, All-nil}
use Rattle.std.proofs.lemmas.List.Kept.{AllPairs-filter}
use Rattle.theory.proofs.Lists.{AllPairs-append, only}
use Rattle.theory.specs.Terms.{Term}
use Rattle.shared_text.specs.BlockLaws.{EndsBefore, TermsComeInOrder}
use Rattle.shared_text.specs.PrintedTerms.{same, is_among, with_term, joined, ends_of, is_shared, printed_terms}
use Rattle.shared_text.proofs.Joined.{IsIn, same-is, among-append, or-none, with-there, with-new, with-members, in-left, in-right, in-last}

-- a place of a term among others
record Split (t : Term) (ts : List Term) : Type 0 where
  pub before : List Term
  pub after : List Term
  pub place : ts ≡ before ++ t ∷ after

split : (ts : List Term) (t : Term) → IsIn t ts → Split t ts
split [] t h = absurd (false≢true h)
split (x ∷ ts) t h = by (same t x) refl h (split ts t)
  where
    by : (b : Bool) → same t x ≡ b → (b || is_among ts t) ≡ true → (IsIn t ts → Split t ts) → Split t (x ∷ ts)
    by true e h more = record { before = []; after = ts; place = ap (λ y. y ∷ ts) (sym (same-is t x e)) }
    by false e h more = let rest = more h in record { before = x ∷ rest.before; after = rest.after; place = ap (λ ys. x ∷ ys) rest.place }

-- before a place there is nothing that is not there at all
not-before : (before after : List Term) (u : Term) → is_among (before ++ after) u ≡ false → is_among before u ≡ false
not-before before after u h = go (is_among before u) refl
  where
    go : (b : Bool) → is_among before u ≡ b → is_among before u ≡ false
    go true e = absurd (true≢false (sym (in-left before after u e) ∙ h))
    go false e = e

-- a term that is there ends before one that comes after
ends-before : (done xs : List Term) (t u : Term) → IsIn t done → is_among done u ≡ false → EndsBefore (done ++ xs) t u
ends-before done xs t u there new =
    let s = split done t there in
    record {
      before = s.before;
      after = s.after ++ xs;
      place = ap (λ ys. ys ++ xs) s.place ∙ append_assoc s.before (t ∷ s.after) xs;
      later = not-before s.before (t ∷ s.after) u (sym (ap (λ ys. is_among ys u) s.place) ∙ new);
      other = λ e. true≢false (sym there ∙ (ap (is_among done) e ∙ new));
    }

all-in : (P : Term → Type 0) (ts : List Term) → ((t : Term) → IsIn t ts → P t) → All P ts
all-in P [] each = All-nil P
all-in P (t ∷ ts) each =
    All-cons P t ts (each t (in-left (t ∷ []) ts t (in-last [] t))) (all-in P ts (λ u h. each u (in-right (t ∷ []) ts u h)))

one-pair : (R : Term → Term → Type 0) (x : Term) → AllPairs R (x ∷ [])
one-pair R x i j d below within = absurd (omega arith)

module _ (done xs there : List Term) (x : Term) (agree : (u : Term) → is_among there u ≡ is_among done u) where
  with-next : (ends : List Term) → ends ≡ done ++ x ∷ xs → AllPairs (EndsBefore ends) there → AllPairs (EndsBefore ends) (with_term there x)
  with-next ends is order = by (is_among there x) refl
    where
      by : (b : Bool) → is_among there x ≡ b → AllPairs (EndsBefore ends) (with_term there x)
      by true h = subst (AllPairs (EndsBefore ends)) (sym (with-there there x h)) order
      by false h =
          subst (AllPairs (EndsBefore ends)) (sym (with-new there x h))
          (AllPairs-append (EndsBefore ends) (λ t. IsIn t done) (λ u. is_among done u ≡ false) there (x ∷ [])
          (λ t u old new. subst (λ ts. EndsBefore ts t u) (sym is) (ends-before done (x ∷ xs) t u old new))
          (all-in (λ t. IsIn t done) there (λ t k. sym (agree t) ∙ k))
          (only (λ u. is_among done u ≡ false) x (sym (agree x) ∙ h))
          order (one-pair (EndsBefore ends) x))

  agree-next : (u : Term) → is_among (with_term there x) u ≡ is_among (done ++ x ∷ []) u
  agree-next u =
      with-members there x u
      ∙ (ap (λ b. b || same u x) (agree u) ∙ sym (among-append done (x ∷ []) u ∙ ap (λ b. is_among done u || b) (or-none (same u x))))

in-order : (done there xs ends : List Term) → ends ≡ done ++ xs → ((u : Term) → is_among there u ≡ is_among done u) → AllPairs (EndsBefore ends) there
    → AllPairs (EndsBefore ends) (joined there xs)
in-order done there [] ends is agree order = order
in-order done there (x ∷ xs) ends is agree order =
    in-order (done ++ x ∷ []) (with_term there x) xs ends (is ∙ sym (append_assoc done (x ∷ []) xs)) (agree-next done xs there x agree)
    (with-next done xs there x agree ends is order)

no-pairs : (R : Term → Term → Type 0) → AllPairs R []
no-pairs R i j d below within = absurd (omega arith)

pub terms_come_in_order : TermsComeInOrder
terms_come_in_order written =
    let ends = flat_map (ends_of false) written in
    let order = in-order [] [] ends ends refl (λ u. refl) (no-pairs (EndsBefore ends)) in
    (order, AllPairs-filter (EndsBefore ends) (is_shared written) (printed_terms written) order)
