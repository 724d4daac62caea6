-- Terms that no low term tells apart as a part: such a term has one as a strict part exactly where it has the other.
use Rattle.std.proofs.Common.{◌≡◌, ℕ, zero, suc, ◌<◌, ◌≤◌, ◌==◌, ◌&&◌, ◌||◌, Bool, true, false, Option, Some, None, List, [], ◌∷◌, length, slice_get, inl, inr, refl, ap, ap₂, sym, ◌∙◌, arith}
use Rattle.theory.specs.Terms.{Term, Pi, Lam, App, Let, height}
use Rattle.theory.specs.Telescopes.{applied}
use Rattle.core_terms.proofs.Placing.{Alike, alike-app, alike-lam, alike-pi}
use Rattle.core_sig.specs.Shapes.{ArgumentShape, ConstructorShape, Shape, by_kind}
use Rattle.core_sig.specs.declared.family.ArgKind.{ArgKind}
use Rattle.core_sig.specs.declared.family.ArgKind.TheVariants.{Plain, Recursive}
use Rattle.case_below_gen.specs.PartTests.{constructor_of, has_part, has_part_along, in_constructor, is_applied, is_at}
use Rattle.case_below_gen.proofs.PartTests.{applied-tells}

-- at no number of arguments is one of them a low term, and the other is not
abbrev pub AreSeenAlike : Term → Term → Type 0
AreSeenAlike s t = (r : Term) (count : ℕ) → height r ≤ 2000 → is_applied r count s ≡ is_applied r count t

-- ---- terms

none-applied : (r : Term) (us : List Term) → length us ≡ 0 → applied r us ≡ r
none-applied r [] e = refl
none-applied r (u ∷ us) e = absurd (omega arith)

high-apart : (t r : Term) → 2000 < height t → height r ≤ 2000 → is_applied r zero t ≡ false
high-apart t r high low = by (is_applied r zero t) refl
  where
    by : (b : Bool) → is_applied r zero t ≡ b → b ≡ false
    by false e = refl
    by true e =
        let at = applied-tells r zero t e in
        let same : height t ≡ height r = ap height (at.form ∙ none-applied r at.inner at.counted) in
        absurd (omega arith)

pub seen-whole : (s t r : Term) → Alike s t → height r ≤ 2000 → is_applied r zero s ≡ is_applied r zero t
seen-whole s t r (inl same) low = ap (is_applied r zero) same
seen-whole s t r (inr (high, high')) low = high-apart s r high low ∙ sym (high-apart t r high' low)

-- Equal or both too high, and distinguished by no low term.
pub record IsLike (s t : Term) : Type 0 where
  pub alike : Alike s t
  pub seen : AreSeenAlike s t

pub like-itself : (t : Term) → IsLike t t
like-itself t = record { alike = inl refl; seen = λ r count low. refl }

pub like-app : (f f' a a' : Term) → IsLike f f' → Alike a a' → IsLike (App f a) (App f' a')
like-app f f' a a' h k = record { alike = alike-app f f' a a' h.alike k; seen = seen }
  where
    seen : AreSeenAlike (App f a) (App f' a')
    seen r zero low = seen-whole (App f a) (App f' a') r (alike-app f f' a a' h.alike k) low
    seen r (suc count) low = h.seen r count low

pub like-pi : (a a' b b' : Term) → Alike a a' → Alike b b' → IsLike (Pi a b) (Pi a' b')
like-pi a a' b b' h k = record { alike = alike-pi a a' b b' h k; seen = seen }
  where
    seen : AreSeenAlike (Pi a b) (Pi a' b')
    seen r zero low = seen-whole (Pi a b) (Pi a' b') r (alike-pi a a' b b' h k) low
    seen r (suc count) low = refl

pub like-lam : (a a' b b' : Term) → Alike a a' → Alike b b' → IsLike (Lam a b) (Lam a' b')
like-lam a a' b b' h k = record { alike = alike-lam a a' b b' h k; seen = seen }
  where
    seen : AreSeenAlike (Lam a b) (Lam a' b')
    seen r zero low = seen-whole (Lam a b) (Lam a' b') r (alike-lam a a' b b' h k) low
    seen r (suc count) low = refl

alike-let : (a a' t t' b b' : Term) → Alike a a' → Alike t t' → Alike b b' → Alike (Let a t b) (Let a' t' b')
alike-let a a' t t' b b' (inl p) (inl q) (inl l) = inl (ap (λ x. Let x t b) p ∙ ap₂ (Let a') q l)
alike-let a a' t t' b b' (inr (h, h')) q l = inr (omega arith, omega arith)
alike-let a a' t t' b b' (inl p) (inr (h, h')) l = inr (omega arith, omega arith)
alike-let a a' t t' b b' (inl p) (inl q) (inr (h, h')) = inr (omega arith, omega arith)

pub like-let : (a a' t t' b b' : Term) → Alike a a' → Alike t t' → Alike b b' → IsLike (Let a t b) (Let a' t' b')
like-let a a' t t' b b' h k l = record { alike = alike-let a a' t t' b b' h k l; seen = seen }
  where
    seen : AreSeenAlike (Let a t b) (Let a' t' b')
    seen r zero low = seen-whole (Let a t b) (Let a' t' b') r (alike-let a a' t t' b b' h k l) low
    seen r (suc count) low = refl

-- ---- lists of terms

pub data EachAlike : List Term → List Term → Type 0 where
  none : EachAlike [] []
  more : {s t : Term} {ss ts : List Term} → Alike s t → EachAlike ss ts → EachAlike (s ∷ ss) (t ∷ ts)

pub like-applied : (h h' : Term) (ss ts : List Term) → IsLike h h' → EachAlike ss ts → IsLike (applied h ss) (applied h' ts)
like-applied h h' _ _ like EachAlike.none = like
like-applied h h' (s ∷ ss) (t ∷ ts) like (EachAlike.more k all) = like-applied (App h s) (App h' t) ss ts (like-app h h' s t like k) all

pub height-applied : (h : Term) (us : List Term) → height h ≤ height (applied h us)
height-applied h [] = omega arith
height-applied h (u ∷ us) = let rest = height-applied (App h u) us in omega arith

-- ---- strict parts

module _ (n : ℕ) (f : Shape) (s t : Term) (alike : AreSeenAlike s t) where
  at-seen : (o : Option ArgumentShape) (r : Term) (x y : Bool) → height r ≤ 2000 → x ≡ y → is_at s r o x ≡ is_at t r o y
  at-seen None r x y low e = refl
  at-seen (Some a) r x y low e = kinds a.kind
    where
      kinds : (kind : ArgKind)
          → by_kind kind false (λ count. is_applied r count s || ((count == 0) && x)) ≡ by_kind kind false (λ count. is_applied r count t || ((count == 0) && y))
      kinds Plain = refl
      kinds (Recursive count) = ap₂ (λ b c. b || ((count == 0) && c)) (alike r count low) e

  in-seen : (o : Option ConstructorShape) (r : Term)
      → ((inner : List ArgumentShape) → has_part_along n f s inner (length inner) r ≡ has_part_along n f t inner (length inner) r)
      → in_constructor o (λ inner. has_part_along n f s inner (length inner) r) ≡ in_constructor o (λ inner. has_part_along n f t inner (length inner) r)
  in-seen None r h = refl
  in-seen (Some c) r h = h c.arguments

  along-seen : (arguments : List ArgumentShape) (at : ℕ) (w : Term) → height w ≤ 2000 → has_part_along n f s arguments at w ≡ has_part_along n f t arguments at w
  along-seen arguments (suc at) (App g r) low =
      ap₂ ◌||◌ (along-seen arguments at g (omega arith))
      (at-seen (slice_get arguments at) r (has_part n f s r) (has_part n f t r) (omega arith)
      (in-seen (constructor_of n f r) r (λ inner. along-seen inner (length inner) r (omega arith))))
  along-seen arguments zero w low = refl
  along-seen arguments (suc at) w low = refl

  pub part-seen : (whole : Term) → height whole ≤ 2000 → has_part n f s whole ≡ has_part n f t whole
  part-seen whole low = in-seen (constructor_of n f whole) whole (λ inner. along-seen inner (length inner) whole low)
