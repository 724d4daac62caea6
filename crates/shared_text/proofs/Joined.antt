-- Lists of terms without repetitions.
use native.Mathlib.Decide.{ℕ_discrete}
use Rattle.std.proofs.Common.{◌≡◌, ◌⊎◌, inl, inr, Bool, true, false, cond, ◌||◌, List, [], ◌∷◌, ◌++◌, filter, refl, ap, sym, ◌∙◌, append_assoc, append-nil}
use Rattle.std.proofs.lemmas.Bool.{false≢true, true≢false}
use Rattle.theory.specs.Terms.{Term, Term-discrete}
use Rattle.shared_text.specs.PrintedTerms.{same, is_among, with_term, joined}

-- ---- equal terms

pub same-is : (a b : Term) → same a b ≡ true → a ≡ b
same-is a b h = go (Term-discrete ℕ_discrete a b) h
  where
    go : (d : Dec (a ≡ b)) → (elim d [ yes e ↦ true | no e ↦ false ]) ≡ true → a ≡ b
    go (yes e) h = e
    go (no e) h = absurd (false≢true h)

pub same-itself : (a : Term) → same a a ≡ true
same-itself a = go (Term-discrete ℕ_discrete a a)
  where
    go : (d : Dec (a ≡ a)) → (elim d [ yes e ↦ true | no e ↦ false ]) ≡ true
    go (yes e) = refl
    go (no e) = absurd (e refl)

pub same-not : (a b : Term) → (a ≡ b → ⊥) → same a b ≡ false
same-not a b other = go (same a b) refl
  where
    go : (t : Bool) → same a b ≡ t → same a b ≡ false
    go true e = absurd (other (same-is a b e))
    go false e = e

-- ---- members

abbrev pub IsIn : Term → List Term → Type 0
IsIn t ts = is_among ts t ≡ true

pub among-append : (xs ys : List Term) (t : Term) → is_among (xs ++ ys) t ≡ (is_among xs t || is_among ys t)
among-append [] ys t = refl
among-append (x ∷ xs) ys t = go (same t x) (among-append xs ys t)
  where
    go : (b : Bool) → is_among (xs ++ ys) t ≡ (is_among xs t || is_among ys t) → (b || is_among (xs ++ ys) t) ≡ ((b || is_among xs t) || is_among ys t)
    go true e = refl
    go false e = e

or-right : (b : Bool) → (b || true) ≡ true
or-right true = refl
or-right false = refl

pub or-none : (b : Bool) → (b || false) ≡ b
or-none true = refl
or-none false = refl

pub in-left : (xs ys : List Term) (t : Term) → IsIn t xs → IsIn t (xs ++ ys)
in-left xs ys t h = among-append xs ys t ∙ ap (λ b. b || is_among ys t) h

pub in-right : (xs ys : List Term) (t : Term) → IsIn t ys → IsIn t (xs ++ ys)
in-right xs ys t h = among-append xs ys t ∙ (ap (λ b. is_among xs t || b) h ∙ or-right (is_among xs t))

either : (a b : Bool) → (a || b) ≡ true → (a ≡ true) ⊎ (b ≡ true)
either true b h = inl refl
either false b h = inr h

pub in-either : (xs ys : List Term) (t : Term) → IsIn t (xs ++ ys) → IsIn t xs ⊎ IsIn t ys
in-either xs ys t h = either (is_among xs t) (is_among ys t) (sym (among-append xs ys t) ∙ h)

-- what follows both from being among the first ones and from being among the others
pub by-either : {P : Type 0} (xs ys : List Term) (t : Term) → IsIn t (xs ++ ys) → (IsIn t xs → P) → (IsIn t ys → P) → P
by-either {P = P} xs ys t h one other = by (in-either xs ys t h)
  where
    by : IsIn t xs ⊎ IsIn t ys → P
    by (inl e) = one e
    by (inr e) = other e

pub in-last : (xs : List Term) (t : Term) → IsIn t (xs ++ t ∷ [])
in-last xs t = in-right xs (t ∷ []) t (ap (λ b. b || false) (same-itself t))

pub is-only : (t u : Term) → IsIn t (u ∷ []) → t ≡ u
is-only t u h = same-is t u (sym (or-none (same t u)) ∙ h)

-- ---- one term more

pub with-there : (ts : List Term) (t : Term) → IsIn t ts → with_term ts t ≡ ts
with-there ts t h = ap (λ b. cond b ts (ts ++ t ∷ [])) h

pub with-new : (ts : List Term) (t : Term) → is_among ts t ≡ false → with_term ts t ≡ ts ++ t ∷ []
with-new ts t h = ap (λ b. cond b ts (ts ++ t ∷ [])) h

pub with-members : (ts : List Term) (t u : Term) → is_among (with_term ts t) u ≡ (is_among ts u || same u t)
with-members ts t u = go (is_among ts t) refl
  where
    one : is_among (ts ++ t ∷ []) u ≡ (is_among ts u || same u t)
    one = among-append ts (t ∷ []) u ∙ ap (λ b. is_among ts u || b) (or-none (same u t))

    there : IsIn t ts → (b : Bool) → same u t ≡ b → is_among ts u ≡ (is_among ts u || b)
    there h true e = ap (is_among ts) (same-is u t e) ∙ (h ∙ (sym (or-right (is_among ts u))))
    there h false e = sym (or-none (is_among ts u))

    go : (b : Bool) → is_among ts t ≡ b → is_among (with_term ts t) u ≡ (is_among ts u || same u t)
    go true h = ap (λ xs. is_among xs u) (with-there ts t h) ∙ there h (same u t) refl
    go false h = ap (λ xs. is_among xs u) (with-new ts t h) ∙ one

-- ---- joined lists

pub joined-append : (there xs ys : List Term) → joined there (xs ++ ys) ≡ joined (joined there xs) ys
joined-append there [] ys = refl
joined-append there (x ∷ xs) ys = joined-append (with_term there x) xs ys

pub joined-members : (there xs : List Term) (u : Term) → is_among (joined there xs) u ≡ (is_among there u || is_among xs u)
joined-members there [] u = sym (or-none (is_among there u))
joined-members there (x ∷ xs) u =
    joined-members (with_term there x) xs u ∙ (ap (λ b. b || is_among xs u) (with-members there x u) ∙ or-assoc (is_among there u) (same u x) (is_among xs u))
  where
    or-assoc : (a b c : Bool) → ((a || b) || c) ≡ (a || (b || c))
    or-assoc true b c = refl
    or-assoc false b c = refl

pub joined-there : (there xs : List Term) → ((u : Term) → IsIn u xs → IsIn u there) → joined there xs ≡ there
joined-there there [] within = refl
joined-there there (x ∷ xs) within =
    ap (λ ts. joined ts xs) (with-there there x (within x (ap (λ b. b || is_among xs x) (same-itself x))))
    ∙ joined-there there xs (λ u h. within u (in-right (x ∷ []) xs u h))

-- ---- new terms, each once

abbrev pub AreFresh : List Term → List Term → Type 0
AreFresh there [] = Unit {0}
AreFresh there (t ∷ ts) = (is_among there t ≡ false) × AreFresh (there ++ t ∷ []) ts

pub record News (there xs : List Term) : Type 0 where
  pub added : List Term
  pub whole : joined there xs ≡ there ++ added
  pub fresh : AreFresh there added

news-by : (there : List Term) (x : Term) (xs : List Term) (b : Bool) → is_among there x ≡ b → News there xs → News (there ++ x ∷ []) xs → News there (x ∷ xs)
news-by there x xs true h old more = record { added = old.added; whole = ap (λ ts. joined ts xs) (with-there there x h) ∙ old.whole; fresh = old.fresh }
news-by there x xs false h old more =
    record {
      added = x ∷ more.added;
      whole = ap (λ ts. joined ts xs) (with-new there x h) ∙ (more.whole ∙ append_assoc there (x ∷ []) more.added);
      fresh = (h, more.fresh);
    }

pub news : (there xs : List Term) → News there xs
news there [] = record { added = []; whole = sym (append-nil there); fresh = _ }
news there (x ∷ xs) = news-by there x xs (is_among there x) refl (news there xs) (news (there ++ x ∷ []) xs)

pub joined-fresh : (there xs : List Term) → AreFresh there xs → joined there xs ≡ there ++ xs
joined-fresh there [] fresh = sym (append-nil there)
joined-fresh there (x ∷ xs) fresh =
    ap (λ ts. joined ts xs) (with-new there x fresh.0) ∙ (joined-fresh (there ++ x ∷ []) xs fresh.1 ∙ append_assoc there (x ∷ []) xs)

not-in : (xs ys : List Term) (t : Term) → ((u : Term) → IsIn u xs → IsIn u ys) → is_among ys t ≡ false → is_among xs t ≡ false
not-in xs ys t within h = go (is_among xs t) refl
  where
    go : (b : Bool) → is_among xs t ≡ b → is_among xs t ≡ false
    go true e = absurd (true≢false (sym (within t e) ∙ h))
    go false e = e

one-more : (some there : List Term) (x : Term) → ((u : Term) → IsIn u some → IsIn u there) → (u : Term) → IsIn u (some ++ x ∷ []) → IsIn u (there ++ x ∷ [])
one-more some there x within u h = by (in-either some (x ∷ []) u h)
  where
    by : IsIn u some ⊎ IsIn u (x ∷ []) → IsIn u (there ++ x ∷ [])
    by (inl e) = in-left there (x ∷ []) u (within u e)
    by (inr e) = in-right there (x ∷ []) u e

fresh-by : (some : List Term) (x : Term) (xs : List Term) (b : Bool) → is_among some x ≡ false → AreFresh (some ++ x ∷ []) xs → AreFresh some xs → AreFresh some (cond b (x ∷ xs) xs)
fresh-by some x xs true new one other = (new, one)
fresh-by some x xs false new one other = other

-- what passes a test is new and there once as well
pub fresh-filter : (p : Term → Bool) (some there xs : List Term) → ((u : Term) → IsIn u some → IsIn u there) → AreFresh there xs → AreFresh some (filter p xs)
fresh-filter p some there [] within fresh = _
fresh-filter p some there (x ∷ xs) within fresh =
    fresh-by some x (filter p xs) (p x) (not-in some there x within fresh.0)
    (fresh-filter p (some ++ x ∷ []) (there ++ x ∷ []) xs (one-more some there x within) fresh.1)
    (fresh-filter p some (there ++ x ∷ []) xs (λ u h. in-left there (x ∷ []) u (within u h)) fresh.1)

-- those that pass a test, of terms each of which is there once
pub joined-filter : (p : Term → Bool) (xs : List Term) → joined [] (filter p (joined [] xs)) ≡ filter p (joined [] xs)
joined-filter p xs =
    let rest = news [] xs in
    ap (λ ts. joined [] (filter p ts)) rest.whole
    ∙ (joined-fresh [] (filter p rest.added) (fresh-filter p [] [] rest.added (λ u h. h) rest.fresh) ∙ ap (filter p) (sym rest.whole))
