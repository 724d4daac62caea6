-- Well scoped terms: other terms of the same context, and longer contexts.
use Rattle.std.proofs.Common.{◌≡◌, ℕ, ◌+◌, ◌<◌, ◌≤◌, List, [], ◌∷◌, ◌++◌, length, take, get_or, sym, subst as transport, arith}
use Rattle.std.proofs.lemmas.List.{length-append, length-take-le}
use Rattle.std.proofs.lemmas.List.Elements.{All-nil, All-cons, All-head, All-tail}
use Rattle.std.specs.List.{All}
use Rattle.theory.specs.Terms.{Term}
use Rattle.theory.specs.Telescopes.{Telescope}
use Rattle.theory.specs.Signatures.{Signature}
use Rattle.theory.specs.SignatureScopes.{IsScoped, IsScopedSignature, IsScopedTelescope}
use Rattle.theory.proofs.ScopedTerms.{scoped_over_more}
use Rattle.core_terms.specs.Bounds.{context_limit}
use Rattle.kernel_reduce.specs.WellScoped.{AreScoped, AreWellScoped}
use Rattle.kernel_reduce.proofs.ScopedTelescopes.{telescope-append, telescope-at, telescope-parts, telescope-take}

-- Lists of scoped terms.

pub all-scoped : (S : Signature) (n : ℕ) (ts : List Term) → AreScoped S n ts → All (IsScoped S n) ts
all-scoped S n [] h = All-nil (IsScoped S n)
all-scoped S n (t ∷ ts) h = All-cons (IsScoped S n) t ts h.0 (all-scoped S n ts h.1)

pub scoped-all : (S : Signature) (n : ℕ) (ts : List Term) → All (IsScoped S n) ts → AreScoped S n ts
scoped-all S n [] h = tt
scoped-all S n (t ∷ ts) h = (All-head (IsScoped S n) t ts h, scoped-all S n ts (All-tail (IsScoped S n) t ts h))

pub scoped-more : (S : Signature) (n m : ℕ) (ts : List Term) → n ≤ m → AreScoped S n ts → AreScoped S m ts
scoped-more S n m [] low h = tt
scoped-more S n m (t ∷ ts) low h = (scoped_over_more S n m t low h.0, scoped-more S n m ts low h.1)

pub scoped-at : (S : Signature) (n : ℕ) (ts : List Term) (k : ℕ) (d : Term) → k < length ts → AreScoped S n ts → IsScoped S n (get_or ts k d)
scoped-at S n ts k d lt h = all-scoped S n ts h k d lt

-- Terms without free variables, in the empty context.

pub closed_terms : {S : Signature} {ts : List Term} → IsScopedSignature S → AreScoped S 0 ts → AreWellScoped S [] ts
closed_terms {S} {ts} scoped h = record { signature = scoped; context = tt; few = omega arith; terms = h }

-- Other terms in the same context.

pub with_terms : {S : Signature} {G : Telescope} {ts us : List Term} → AreWellScoped S G ts → AreScoped S (length G) us → AreWellScoped S G us
with_terms h k = record { signature = h.signature; context = h.context; few = h.few; terms = k }

pub first_alone : {S : Signature} {G : Telescope} {t : Term} {ts : List Term} → AreWellScoped S G (t ∷ ts) → AreWellScoped S G (t ∷ [])
first_alone h = with_terms h (h.terms.0, tt)

pub without_first : {S : Signature} {G : Telescope} {t : Term} {ts : List Term} → AreWellScoped S G (t ∷ ts) → AreWellScoped S G ts
without_first h = with_terms h h.terms.1

pub term_at : {S : Signature} {G : Telescope} {ts : List Term} (k : ℕ) (d : Term) → k < length ts → AreWellScoped S G ts → AreWellScoped S G (get_or ts k d ∷ [])
term_at {S} {G} {ts} k d lt h = with_terms h (scoped-at S (length G) ts k d lt h.terms, tt)

-- Under binders: a longer context has the terms over all of its variables.

under-telescope : {S : Signature} {G : Telescope} {ts : List Term} (tele : Telescope) {us : List Term} → AreWellScoped S G ts → IsScopedTelescope S (length G) tele
    → length G + length tele < context_limit → AreScoped S (length G + length tele) us → AreWellScoped S (G ++ tele) us
under-telescope {S} {G} tele {us} h inner few k =
    let count : length G + length tele ≡ length (G ++ tele) = sym (length-append G tele) in
    record {
      signature = h.signature;
      context = telescope-append S 0 G tele h.context (transport (λ n. IsScopedTelescope S n tele) (let e : length G ≡ 0 + length G = omega arith in e) inner);
      few = transport (λ n. n < context_limit) count few;
      terms = transport (λ n. AreScoped S n us) count k;
    }

pub as_they_stand : {S : Signature} {G : Telescope} {ts : List Term} (tele : Telescope) → AreWellScoped S G ts → IsScopedTelescope S (length G) tele
    → length G + length tele < context_limit → AreWellScoped S (G ++ tele) ts
as_they_stand {S} {G} {ts} tele h inner few =
    under-telescope tele h inner few (scoped-more S (length G) (length G + length tele) ts (omega arith) h.terms)

-- A shorter context: the types before others, and one of these others.

pub shorter_context : {S : Signature} {ts : List Term} (G H : Telescope) → AreWellScoped S (G ++ H) ts → AreWellScoped S G []
shorter_context {S} G H h =
    record {
      signature = h.signature;
      context = (telescope-parts S 0 G H h.context).0;
      few = omega (arith, h.few, length-append G H);
      terms = tt;
    }

pub type_before : {S : Signature} {ts : List Term} (G H : Telescope) (k : ℕ) (a : Term) → k < length H → a ≡ get_or H k a → AreWellScoped S (G ++ H) ts
    → AreWellScoped S (G ++ take k H) (a ∷ [])
type_before {S} G H k a lt is h =
    let zero : 0 + length G ≡ length G = omega arith in
    let inner : IsScopedTelescope S (length G) H = transport (λ n. IsScopedTelescope S n H) zero (telescope-parts S 0 G H h.context).1 in
    let count : length (take k H) ≡ k = length-take-le k H (omega arith) in
    let type : IsScoped S (length G + length (take k H)) a =
    transport (λ n. IsScoped S (length G + n) a) (sym count) (transport (IsScoped S (length G + k)) (sym is) (telescope-at S (length G) k H a lt inner)) in
    under-telescope (take k H) (shorter_context G H h) (telescope-take S (length G) k H inner) (omega (arith, h.few, length-append G H)) (type, tt)
