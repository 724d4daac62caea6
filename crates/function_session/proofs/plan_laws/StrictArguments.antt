-- A call that fits a position has no call of the function as its argument there: that is a strict part of a term without the function.
use Rattle.std.proofs.Common.{◌≡◌, ℕ, zero, suc, ◌+◌, ◌==◌, ◌||◌, ◌<◌, Bool, true, false, cond, Some, List, [], ◌∷◌, ◌++◌, length, slice_get, inl, inr, refl, sym, ap, ◌∙◌, subst as transport, append_assoc, arith}
use Rattle.std.specs.List.{All}
use Rattle.std.proofs.lemmas.Bool.{or_parts, true≢false, or_from}
use Rattle.std.proofs.lemmas.Bool.Decides.{nat_tests}
use Rattle.std.proofs.lemmas.List.{append-nil, length-append}
use Rattle.std.proofs.lemmas.List.Elements.{All-head, All-tail}
use Rattle.std.proofs.lemmas.Option.{none-some, slice_get_within}
use Rattle.theory.specs.Terms.{Term, Var, Sort, Pi, Lam, App, Let, Const, Fam, Con, Elim, AxiomK, lift}
use Rattle.theory.specs.Families.{Family}
use Rattle.theory.specs.Signatures.{Signature, Definition}
use Rattle.theory.specs.SignatureScopes.{HasEntries, IsScoped}
use Rattle.theory.specs.Spines.{head_of, spine_of}
use Rattle.theory.specs.Substitutions.{inst, ups}
use Rattle.theory.specs.Telescopes.{applied}
use Rattle.theory.proofs.Lists.{slice_get-last, slice_get-longer, slice_get-pushed, some_is}
use Rattle.theory.proofs.AllOf.{all_left, all_right}
use Rattle.case_trees.proofs.Arguments.{head-applied}
use Rattle.case_below_gen.specs.StrictParts.{IsStrictPart}
use Rattle.case_below_gen.specs.StrictParts.IsStrictPart.{inside, itself}
use Rattle.tree_translation.specs.structural_rec.Calls.{Call, calls_in, has_constant}
use Rattle.tree_translation.specs.structural_rec.Fitting.{Fits}
use Rattle.tree_translation.specs.structural_rec.Positions.{Admission}
use Rattle.leaf_terms.specs.CallsApart.{CallsStandApart, is_function}

all-at : {X : Type 0} (P : X → Type 0) (xs : List X) (i : ℕ) (x : X) → All P xs → slice_get xs i ≡ Some x → P x
all-at P [] i x h e = absurd (none-some x e)
all-at P (y ∷ xs) zero x h e = transport P (some_is e) (All-head P y xs h)
all-at P (y ∷ xs) (suc i) x h e = all-at P xs i x (All-tail P y xs h) e

-- ---- terms without the function

free-of : (S : Signature) (t : Term) → HasEntries S t → has_constant (length S.entries) t ≡ false
free-of S (Pi a b) h = or_from _ _ (free-of S a h.0) (free-of S b h.1)
free-of S (Lam a b) h = or_from _ _ (free-of S a h.0) (free-of S b h.1)
free-of S (App f a) h = or_from _ _ (free-of S f h.0) (free-of S a h.1)
free-of S (Let a t b) h = or_from _ _ (free-of S a h.0) (or_from _ _ (free-of S t h.1) (free-of S b h.2))
free-of S (Const c) h = apart c (length S.entries) (slice_get_within S.entries c (Definition h.0 h.1 h.2) h.3)
  where
    apart : (c base : ℕ) → c < base → (c == base) ≡ false
    apart c base low = grind (arith, nat_tests)
free-of S (Var v) h = refl
free-of S (Sort i) h = refl
free-of S (Fam n) h = refl
free-of S (Con n c) h = refl
free-of S (Elim n m) h = refl
free-of S (AxiomK i m) h = refl

both : (a b c d : Bool) → a ≡ c → b ≡ d → (a || b) ≡ (c || d)
both a b c d h k = ap (λ x. x || b) h ∙ ap (λ x. c || x) k

constant-lift : (base by from : ℕ) (t : Term) → has_constant base (lift t by from) ≡ has_constant base t
constant-lift base by from (Pi a b) = both _ _ _ _ (constant-lift base by from a) (constant-lift base by (from + 1) b)
constant-lift base by from (Lam a b) = both _ _ _ _ (constant-lift base by from a) (constant-lift base by (from + 1) b)
constant-lift base by from (App f a) = both _ _ _ _ (constant-lift base by from f) (constant-lift base by from a)
constant-lift base by from (Let a t b) = both _ _ _ _ (constant-lift base by from a) (both _ _ _ _ (constant-lift base by from t) (constant-lift base by (from + 1) b))
constant-lift base by from (Const c) = refl
constant-lift base by from (Var v) = refl
constant-lift base by from (Sort i) = refl
constant-lift base by from (Fam n) = refl
constant-lift base by from (Con n c) = refl
constant-lift base by from (Elim n m) = refl
constant-lift base by from (AxiomK i m) = refl

among-free : (base : ℕ) (t r : Term) (i : ℕ) → has_constant base t ≡ false → slice_get (spine_of t) i ≡ Some r → has_constant base r ≡ false
among-free base (App g a) r i h at =
    let parts = or_parts (has_constant base g) (has_constant base a) h in
    elim (slice_get-pushed (spine_of g) a i r at) [
      | inl before ↦ among-free base g r i parts.0 before
      | inr last ↦ transport (λ u. has_constant base u ≡ false) last.1 parts.1
    ]
among-free base (Pi a b) r i h at = absurd (none-some r at)
among-free base (Lam a b) r i h at = absurd (none-some r at)
among-free base (Let a t b) r i h at = absurd (none-some r at)
among-free base (Const c) r i h at = absurd (none-some r at)
among-free base (Var v) r i h at = absurd (none-some r at)
among-free base (Sort n) r i h at = absurd (none-some r at)
among-free base (Fam n) r i h at = absurd (none-some r at)
among-free base (Con n c) r i h at = absurd (none-some r at)
among-free base (Elim n m) r i h at = absurd (none-some r at)
among-free base (AxiomK n m) r i h at = absurd (none-some r at)

head-free : (base : ℕ) (t : Term) → has_constant base t ≡ false → is_function base (head_of t) ≡ false
head-free base (App g a) h = head-free base g (or_parts (has_constant base g) (has_constant base a) h).0
head-free base (Const c) h = h
head-free base (Pi a b) h = refl
head-free base (Lam a b) h = refl
head-free base (Let a t b) h = refl
head-free base (Var v) h = refl
head-free base (Sort i) h = refl
head-free base (Fam n) h = refl
head-free base (Con n c) h = refl
head-free base (Elim n m) h = refl
head-free base (AxiomK i m) h = refl

-- a strict part of a term without the function is no call
part-free : (base n : ℕ) (f : Family) (part t : Term) → IsStrictPart n f part t → has_constant base t ≡ false → is_function base (head_of part) ≡ false
part-free base n f part t (itself {r = r} inner is e) h =
    ap (λ u. is_function base (head_of u)) e ∙ (ap (is_function base) (head-applied r inner) ∙ head-free base r (among-free base t r _ h is.argument))
part-free base n f part t (inside {r = r} is rest) h = part-free base n f part r rest (among-free base t r _ h is.argument)

-- ---- calls

-- the argument of a call at the position is no call
abbrev pub HasNoCallAt : (base position : ℕ) → Call → Type 0
HasNoCallAt base position c = (part : Term) → slice_get (spine_of c.term) position ≡ Some part → is_function base (head_of part) ≡ false

pub fits-apart : (S T : Signature) (n count position : ℕ) (a : Admission) (terms : List Term) (c : Call) → All (IsScoped S n) terms → Fits T count position a terms c
    → HasNoCallAt (length S.entries) position c
fits-apart S T n count position a terms c scoped fits part at =
    let own = all-at (IsScoped S n) terms position fits.own scoped fits.there in
    transport (λ u. is_function (length S.entries) (head_of u) ≡ false) (some_is (sym fits.argument ∙ at))
    (part-free (length S.entries) a.number fits.family fits.part (lift fits.own c.under 0) fits.smaller (constant-lift (length S.entries) c.under 0 fits.own ∙ free-of S fits.own own.entries))

-- the whole application is one of the calls in its head
called-whole : (base position under : ℕ) (whole f : Term) → is_function base (head_of f) ≡ true → All (HasNoCallAt base position) (calls_in base under whole f)
    → HasNoCallAt base position (record { under = under; term = whole })
called-whole base position under whole (App g a) e h =
    called-whole base position under whole g e (all_left (HasNoCallAt base position) (calls_in base under whole g) (calls_in base under a a) h)
called-whole base position under whole (Const c) e h = by (c == base) e h
  where
    by : (b : Bool) → b ≡ true → All (HasNoCallAt base position) (cond b (record { under = under; term = whole } ∷ []) []) → HasNoCallAt base position (record { under = under; term = whole })
    by true e h = All-head (HasNoCallAt base position) (record { under = under; term = whole }) [] h
    by false e h = absurd (true≢false (sym e))
called-whole base position under whole (Pi a b) e h = absurd (true≢false (sym e))
called-whole base position under whole (Lam a b) e h = absurd (true≢false (sym e))
called-whole base position under whole (Let a t b) e h = absurd (true≢false (sym e))
called-whole base position under whole (Var v) e h = absurd (true≢false (sym e))
called-whole base position under whole (Sort i) e h = absurd (true≢false (sym e))
called-whole base position under whole (Fam n) e h = absurd (true≢false (sym e))
called-whole base position under whole (Con n c) e h = absurd (true≢false (sym e))
called-whole base position under whole (Elim n m) e h = absurd (true≢false (sym e))
called-whole base position under whole (AxiomK i m) e h = absurd (true≢false (sym e))

-- a call of a term is one in its instance
record IsCalledIn (base : ℕ) (s : ℕ → Term) (f : Term) : Type 0 where
  head : is_function base (head_of (inst s f)) ≡ true
  count : length (spine_of (inst s f)) ≡ length (spine_of f)

called-in : (base : ℕ) (s : ℕ → Term) (f : Term) → is_function base (head_of f) ≡ true → IsCalledIn base s f
called-in base s (App g b) e =
    let inner = called-in base s g e in
    record {
      head = inner.head;
      count = (let one = length-append (spine_of (inst s g)) (inst s b ∷ []) in let other = length-append (spine_of g) (b ∷ []) in let same = inner.count in omega arith);
    }
called-in base s (Const c) e = record { head = e; count = refl }
called-in base s (Var v) e = absurd (true≢false (sym e))
called-in base s (Pi a b) e = absurd (true≢false (sym e))
called-in base s (Lam a b) e = absurd (true≢false (sym e))
called-in base s (Let a t b) e = absurd (true≢false (sym e))
called-in base s (Sort i) e = absurd (true≢false (sym e))
called-in base s (Fam n) e = absurd (true≢false (sym e))
called-in base s (Con n c) e = absurd (true≢false (sym e))
called-in base s (Elim n m) e = absurd (true≢false (sym e))
called-in base s (AxiomK i m) e = absurd (true≢false (sym e))

not-called : (base : ℕ) (s : ℕ → Term) (a : Term) → is_function base (head_of (inst s a)) ≡ false → is_function base (head_of a) ≡ false
not-called base s a none = by (is_function base (head_of a)) refl
  where
    by : (b : Bool) → is_function base (head_of a) ≡ b → b ≡ false
    by false e = refl
    by true e = absurd (true≢false (sym (called-in base s a e).head ∙ none))

-- calls are apart in a term, where no call in its instance has a call at the position
pub stand-apart : (base position under : ℕ) (s : ℕ → Term) (t whole : Term) (rest : List Term) → spine_of whole ≡ spine_of (inst s t) ++ rest
    → All (HasNoCallAt base position) (calls_in base under whole (inst s t)) → CallsStandApart base position t
stand-apart base position under s (Pi a b) whole rest e h = (
  stand-apart base position under s a (inst s a) [] (sym (append-nil (spine_of (inst s a))))
      (all_left (HasNoCallAt base position) (calls_in base under (inst s a) (inst s a)) (calls_in base (under + 1) (inst (ups s) b) (inst (ups s) b)) h),
  stand-apart base position (under + 1) (ups s) b (inst (ups s) b) [] (sym (append-nil (spine_of (inst (ups s) b))))
      (all_right (HasNoCallAt base position) (calls_in base under (inst s a) (inst s a)) (calls_in base (under + 1) (inst (ups s) b) (inst (ups s) b)) h),
)
stand-apart base position under s (Lam a b) whole rest e h = (
  stand-apart base position under s a (inst s a) [] (sym (append-nil (spine_of (inst s a))))
      (all_left (HasNoCallAt base position) (calls_in base under (inst s a) (inst s a)) (calls_in base (under + 1) (inst (ups s) b) (inst (ups s) b)) h),
  stand-apart base position (under + 1) (ups s) b (inst (ups s) b) [] (sym (append-nil (spine_of (inst (ups s) b))))
      (all_right (HasNoCallAt base position) (calls_in base under (inst s a) (inst s a)) (calls_in base (under + 1) (inst (ups s) b) (inst (ups s) b)) h),
)
stand-apart base position under s (App f a) whole rest e h =
    let first = all_left (HasNoCallAt base position) (calls_in base under whole (inst s f)) (calls_in base under (inst s a) (inst s a)) h in (
      stand-apart base position under s f whole (inst s a ∷ rest) (e ∙ append_assoc (spine_of (inst s f)) (inst s a ∷ []) rest) first,
      stand-apart base position under s a (inst s a) [] (sym (append-nil (spine_of (inst s a))))
          (all_right (HasNoCallAt base position) (calls_in base under whole (inst s f)) (calls_in base under (inst s a) (inst s a)) h),
      λ called place.
          not-called base s a
          (called-whole base position under whole (inst s f) (called-in base s f called).head first (inst s a) (slot (sym (called-in base s f called).count) place)),
    )
  where
    slot : length (spine_of f) ≡ length (spine_of (inst s f)) → length (spine_of f) ≡ position → slice_get (spine_of whole) position ≡ Some (inst s a)
    slot same place =
        ap (λ us. slice_get us position) e
        ∙ slice_get-longer (spine_of (inst s f) ++ inst s a ∷ []) rest position (inst s a)
        (ap (slice_get (spine_of (inst s f) ++ inst s a ∷ [])) (sym place ∙ same) ∙ slice_get-last (spine_of (inst s f)) (inst s a))
stand-apart base position under s (Let a t b) whole rest e h =
    let later = all_right (HasNoCallAt base position) (calls_in base under (inst s a) (inst s a)) (calls_in base under (inst s t) (inst s t) ++ calls_in base (under + 1) (inst (ups s) b) (inst (ups s) b)) h in (
      stand-apart base position under s a (inst s a) [] (sym (append-nil (spine_of (inst s a))))
          (all_left (HasNoCallAt base position) (calls_in base under (inst s a) (inst s a)) (calls_in base under (inst s t) (inst s t) ++ calls_in base (under + 1) (inst (ups s) b) (inst (ups s) b)) h),
      stand-apart base position under s t (inst s t) [] (sym (append-nil (spine_of (inst s t))))
          (all_left (HasNoCallAt base position) (calls_in base under (inst s t) (inst s t)) (calls_in base (under + 1) (inst (ups s) b) (inst (ups s) b)) later),
      stand-apart base position (under + 1) (ups s) b (inst (ups s) b) [] (sym (append-nil (spine_of (inst (ups s) b))))
          (all_right (HasNoCallAt base position) (calls_in base under (inst s t) (inst s t)) (calls_in base (under + 1) (inst (ups s) b) (inst (ups s) b)) later),
    )
stand-apart base position under s (Const c) whole rest e h = tt
stand-apart base position under s (Var v) whole rest e h = tt
stand-apart base position under s (Sort i) whole rest e h = tt
stand-apart base position under s (Fam n) whole rest e h = tt
stand-apart base position under s (Con n c) whole rest e h = tt
stand-apart base position under s (Elim n m) whole rest e h = tt
stand-apart base position under s (AxiomK i m) whole rest e h = tt

-- a head that is no call, applied to arguments
pub applied-apart : (base position : ℕ) (h : Term) (us : List Term) → is_function base (head_of h) ≡ false → CallsStandApart base position h
    → All (CallsStandApart base position) us → CallsStandApart base position (applied h us)
applied-apart base position h [] none k all = k
applied-apart base position h (u ∷ us) none k all =
    applied-apart base position (App h u) us none
    (k, All-head (CallsStandApart base position) u us all, λ called place. absurd (true≢false (sym called ∙ none)))
    (All-tail (CallsStandApart base position) u us all)
