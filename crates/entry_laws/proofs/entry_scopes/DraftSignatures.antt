-- A signature followed by the names of a draft as definitions: what is scoped over it is a term of the draft. Its definitions have
-- no bodies of their own.
use Rattle.std.proofs.Common.{◌≡◌, ◌⊎◌, inl, inr, ℕ, zero, suc, ◌+◌, ◌-◌, ◌<◌, ◌≤◌, nat_lt, Bool, true, false, Option, Some, None, option_map, List, [], ◌∷◌, ◌++◌, length, map, take, slice_get, All, refl, sym, ap, subst, ◌∙◌, arith}
use Rattle.std.proofs.lemmas.Bool.Decides.{nat_tests}
use Rattle.std.proofs.lemmas.List.{length-append, length-map}
use Rattle.std.proofs.lemmas.List.Elements.{All-weaker}
use Rattle.std.proofs.lemmas.Option.{none-some, slice_get-map, slice_get_within}
use Rattle.theory.specs.Terms.{Term, Var, Sort, Pi, Lam, App, Let, Const, Fam, Con, Elim, AxiomK}
use Rattle.theory.specs.Telescopes.{Telescope}
use Rattle.theory.specs.Families.{Argument, Plain, Recursive, Constructor, Family, index_types}
use Rattle.theory.specs.Prelude.{equality_family}
use Rattle.theory.specs.Signatures.{Entry, FamilyOf, EliminatorAt, AxiomKAt, Definition, Signature, IsEntryAt, equality}
use Rattle.theory.specs.SignatureScopes.{IsConstantNumber, HasEntries, IsScoped, IsScopedTelescope, IsScopedArgument, IsScopedArguments, IsScopedConstructor, IsScopedFamily, IsScopedEntry}
use Rattle.theory.specs.WellFormed.{first_entries}
use Rattle.theory.proofs.Lists.{some_is, slice_get-append, slice_get-append_right, slice_get-longer, slice_get-take}
use Rattle.theory.proofs.ScopedTerms.{HasNumbers, scoped-wider, telescope-wider, sort-scoped}
use Rattle.core_sig.specs.DraftScopes.{HasDraftEntries, IsDraftTerm}
use Rattle.core_sig.specs.EntryTerms.{EachInTelescope}
use Rattle.unification.specs.ScopedStates.{IsReady}

-- ---- the signature

-- an entry, where a definition has no body of its own
abbrev pub bare : Entry → Entry
bare (Definition name type body) = Definition name (Sort 0) (Sort 0)
bare (FamilyOf f) = FamilyOf f
bare (EliminatorAt n m) = EliminatorAt n m
bare (AxiomKAt i m) = AxiomKAt i m

abbrev pub named : Entry
named = Definition [] (Sort 0) (Sort 0)

-- so many definitions
abbrev pub definitions : ℕ → List Entry
definitions zero = []
definitions (suc count) = named ∷ definitions count

-- the signature with so many names
abbrev pub with_count : Signature → (count : ℕ) → Signature
with_count S count = record { entries = map bare S.entries ++ definitions count; has_k = S.has_k }

length-definitions : (count : ℕ) → length (definitions count) ≡ count
length-definitions zero = refl
length-definitions (suc count) = ap suc (length-definitions count)

definition-at : (count k : ℕ) → k < count → slice_get (definitions count) k ≡ Some named
definition-at zero k lt = absurd (omega arith)
definition-at (suc count) zero lt = refl
definition-at (suc count) (suc k) lt = definition-at count k (omega arith)

definition-only : (count k : ℕ) (e : Entry) → slice_get (definitions count) k ≡ Some e → named ≡ e
definition-only zero k e at = absurd (none-some e at)
definition-only (suc count) zero e at = some_is at
definition-only (suc count) (suc k) e at = definition-only count k e at

-- an entry of the signature is there
pub entry-there : (S : Signature) (count n : ℕ) (e : Entry) → IsEntryAt S n e → IsEntryAt (with_count S count) n (bare e)
entry-there S count n e at =
    slice_get-longer (map bare S.entries) (definitions count) n (bare e) (slice_get-map bare S.entries n ∙ ap (option_map bare) at)

-- an entry of the signature, or a name
pub data IsWhich (S : Signature) (count n : ℕ) (e : Entry) : Type 0 where
  old : (from : Entry) → IsEntryAt S n from → bare from ≡ e → IsWhich S count n e
  new : length S.entries ≤ n → n < length S.entries + count → named ≡ e → IsWhich S count n e

bare-of : (o : Option Entry) (e : Entry) → option_map bare o ≡ Some e → (from : Entry) × (o ≡ Some from) × (bare from ≡ e)
bare-of None e at = absurd (none-some e at)
bare-of (Some from) e at = (from, refl, some_is at)

pub which : (S : Signature) (count n : ℕ) (e : Entry) → IsEntryAt (with_count S count) n e → IsWhich S count n e
which S count n e at = by (nat_lt n (length S.entries)) refl
  where
    many : length (map bare S.entries) ≡ length S.entries
    many = length-map S.entries bare

    within : n < length S.entries + count
    within = omega (arith, slice_get_within (map bare S.entries ++ definitions count) n e at, length-append (map bare S.entries) (definitions count), length-definitions count, many)

    by : (b : Bool) → nat_lt n (length S.entries) ≡ b → IsWhich S count n e
    by true is =
        let low : n < length S.entries = grind (arith, nat_tests) in
        let r = bare-of (slice_get S.entries n) e
        (sym (slice_get-map bare S.entries n) ∙ (sym (slice_get-append (map bare S.entries) (definitions count) n (omega (arith, many))) ∙ at)) in
        IsWhich.old r.0 r.1 r.2
    by false is =
        let high : length S.entries ≤ n = grind (arith, nat_tests) in
        let place : length (map bare S.entries) + (n - length S.entries) ≡ n = omega (arith, many) in
        let behind = sym (slice_get-append_right (map bare S.entries) (definitions count) (n - length S.entries))
        ∙ (ap (slice_get (map bare S.entries ++ definitions count)) place ∙ at) in
        IsWhich.new high within (definition-only count (n - length S.entries) e behind)

name-there : (S : Signature) (count c : ℕ) → length S.entries ≤ c → c < length S.entries + count → IsEntryAt (with_count S count) c named
name-there S count c from to =
    let many : length (map bare S.entries) ≡ length S.entries = length-map S.entries bare in
    let place : length (map bare S.entries) + (c - length S.entries) ≡ c = omega (arith, many) in
    ap (slice_get (map bare S.entries ++ definitions count)) (sym place)
    ∙ (slice_get-append_right (map bare S.entries) (definitions count) (c - length S.entries) ∙ definition-at count (c - length S.entries) (omega arith))

-- a name is a constant
pub name-number : (S : Signature) (count c : ℕ) → length S.entries ≤ c → c < length S.entries + count → IsConstantNumber (with_count S count) c
name-number S count c from to = ([], Sort 0, Sort 0, name-there S count c from to)

pub numbers-there : (S : Signature) (count : ℕ) → HasNumbers S (with_count S count)
numbers-there S count = record {
  constants = λ n (name, type, body, at). (name, Sort 0, Sort 0, entry-there S count n (Definition name type body) at);
  families = λ n (f, at). (f, entry-there S count n (FamilyOf f) at);
  constructors = λ n c (f, at, low). (f, entry-there S count n (FamilyOf f) at, low);
}

-- ---- terms

to-entries : (S : Signature) (count : ℕ) (t : Term) → HasDraftEntries S (length S.entries) count t → HasEntries (with_count S count) t
to-entries S count (Pi a b) h = (to-entries S count a h.0, to-entries S count b h.1)
to-entries S count (Lam a b) h = (to-entries S count a h.0, to-entries S count b h.1)
to-entries S count (App f a) h = (to-entries S count f h.0, to-entries S count a h.1)
to-entries S count (Let a t b) h = (to-entries S count a h.0, to-entries S count t h.1, to-entries S count b h.2)
to-entries S count (Const c) (inl (below, is)) = (numbers-there S count).constants c is
to-entries S count (Const c) (inr (from, to)) = name-number S count c from to
to-entries S count (Fam n) h = (numbers-there S count).families n h
to-entries S count (Con n c) h = (numbers-there S count).constructors n c h
to-entries S count (Elim n m) h = (numbers-there S count).families n h
to-entries S count (Var v) h = tt
to-entries S count (Sort i) h = tt
to-entries S count (AxiomK i m) h = tt

constant-back : (S : Signature) (count c : ℕ) (name : List ℕ) (type body : Term) → IsWhich S count c (Definition name type body)
    → ((c < length S.entries) × IsConstantNumber S c) ⊎ ((length S.entries ≤ c) × (c < length S.entries + count))
constant-back S count c name type body (IsWhich.new from to is) = inr (from, to)
constant-back S count c name type body (IsWhich.old (Definition n t b) at is) = inl (slice_get_within S.entries c (Definition n t b) at, (n, t, b, at))
constant-back S count c name type body (IsWhich.old (FamilyOf f) at is) = absurd (cc)
constant-back S count c name type body (IsWhich.old (EliminatorAt n m) at is) = absurd (cc)
constant-back S count c name type body (IsWhich.old (AxiomKAt i m) at is) = absurd (cc)

pub family-back : (S : Signature) (count n : ℕ) (f : Family) → IsEntryAt (with_count S count) n (FamilyOf f) → IsEntryAt S n (FamilyOf f)
family-back S count n f at = by (which S count n (FamilyOf f) at)
  where
    by : IsWhich S count n (FamilyOf f) → IsEntryAt S n (FamilyOf f)
    by (IsWhich.new from to is) = absurd (cc)
    by (IsWhich.old (FamilyOf g) there is) = there ∙ ap Some is
    by (IsWhich.old (Definition name t b) there is) = absurd (cc)
    by (IsWhich.old (EliminatorAt m l) there is) = absurd (cc)
    by (IsWhich.old (AxiomKAt i m) there is) = absurd (cc)

from-entries : (S : Signature) (count : ℕ) (t : Term) → HasEntries (with_count S count) t → HasDraftEntries S (length S.entries) count t
from-entries S count (Pi a b) h = (from-entries S count a h.0, from-entries S count b h.1)
from-entries S count (Lam a b) h = (from-entries S count a h.0, from-entries S count b h.1)
from-entries S count (App f a) h = (from-entries S count f h.0, from-entries S count a h.1)
from-entries S count (Let a t b) h = (from-entries S count a h.0, from-entries S count t h.1, from-entries S count b h.2)
from-entries S count (Const c) (name, type, body, at) = constant-back S count c name type body (which S count c (Definition name type body) at)
from-entries S count (Fam n) (f, at) = (f, family-back S count n f at)
from-entries S count (Con n c) (f, at, low) = (f, family-back S count n f at, low)
from-entries S count (Elim n m) (f, at) = (f, family-back S count n f at)
from-entries S count (Var v) h = tt
from-entries S count (Sort i) h = tt
from-entries S count (AxiomK i m) h = tt

pub draft-scoped : (S : Signature) (count n : ℕ) (t : Term) → IsDraftTerm S (length S.entries) count n t → IsScoped (with_count S count) n t
draft-scoped S count n t h = record { variables = h.variables; entries = to-entries S count t h.entries }

pub scoped-draft : (S : Signature) (count n : ℕ) (t : Term) → IsScoped (with_count S count) n t → IsDraftTerm S (length S.entries) count n t
scoped-draft S count n t h = record { variables = h.variables; entries = from-entries S count t h.entries }

pub draft-telescope : (S : Signature) (count n : ℕ) (tele : Telescope) → EachInTelescope (IsDraftTerm S (length S.entries) count) n tele
    → IsScopedTelescope (with_count S count) n tele
draft-telescope S count n [] h = tt
draft-telescope S count n (a ∷ tele) h = (draft-scoped S count n a h.0, draft-telescope S count (n + 1) tele h.1)

-- more names
more-entries : (S : Signature) (base count more : ℕ) (t : Term) → count ≤ more → HasDraftEntries S base count t → HasDraftEntries S base more t
more-entries S base count more (Pi a b) le h = (more-entries S base count more a le h.0, more-entries S base count more b le h.1)
more-entries S base count more (Lam a b) le h = (more-entries S base count more a le h.0, more-entries S base count more b le h.1)
more-entries S base count more (App f a) le h = (more-entries S base count more f le h.0, more-entries S base count more a le h.1)
more-entries S base count more (Let a t b) le h =
    (more-entries S base count more a le h.0, more-entries S base count more t le h.1, more-entries S base count more b le h.2)
more-entries S base count more (Const c) le (inl is) = inl is
more-entries S base count more (Const c) le (inr (from, to)) = inr (from, omega arith)
more-entries S base count more (Fam n) le h = h
more-entries S base count more (Con n c) le h = h
more-entries S base count more (Elim n m) le h = h
more-entries S base count more (Var v) le h = tt
more-entries S base count more (Sort i) le h = tt
more-entries S base count more (AxiomK i m) le h = tt

pub draft-names : (S : Signature) (base count more n : ℕ) (t : Term) → count ≤ more → IsDraftTerm S base count n t → IsDraftTerm S base more n t
draft-names S base count more n t le h = record { variables = h.variables; entries = more-entries S base count more t le h.entries }

-- ---- it is ready

take-get : {A : Type 0} (k : ℕ) (xs : List A) (n : ℕ) (x : A) → n < k → slice_get xs n ≡ Some x → slice_get (take k xs) n ≡ Some x
take-get zero xs n x lt at = absurd (omega arith)
take-get (suc k) [] n x lt at = absurd (none-some x at)
take-get (suc k) (y ∷ xs) zero x lt at = at
take-get (suc k) (y ∷ xs) (suc n) x lt at = take-get k xs n x (omega arith) at

take-below : {A : Type 0} (k : ℕ) (xs : List A) (n : ℕ) (x : A) → slice_get (take k xs) n ≡ Some x → n < k
take-below zero xs n x at = absurd (none-some x at)
take-below (suc k) [] n x at = absurd (none-some x at)
take-below (suc k) (y ∷ xs) zero x at = omega arith
take-below (suc k) (y ∷ xs) (suc n) x at = let low = take-below k xs n x at in omega arith

first-there : (S : Signature) (count k n : ℕ) (e : Entry) → IsEntryAt (first_entries S k) n e → IsEntryAt (first_entries (with_count S count) k) n (bare e)
first-there S count k n e at =
    take-get k (map bare S.entries ++ definitions count) n (bare e) (take-below k S.entries n e at)
    (entry-there S count n e (slice_get-take k S.entries n e at))

first-numbers-there : (S : Signature) (count k : ℕ) → HasNumbers (first_entries S k) (first_entries (with_count S count) k)
first-numbers-there S count k = record {
  constants = λ n (name, type, body, at). (name, Sort 0, Sort 0, first-there S count k n (Definition name type body) at);
  families = λ n (f, at). (f, first-there S count k n (FamilyOf f) at);
  constructors = λ n c (f, at, low). (f, first-there S count k n (FamilyOf f) at, low);
}

all-wider : {S T : Signature} → HasNumbers S T → (n : ℕ) (ts : List Term) → All (IsScoped S n) ts → All (IsScoped T n) ts
all-wider {S} {T} m n ts h = All-weaker (IsScoped S n) (IsScoped T n) (λ t k. scoped-wider m k) ts h

argument-wider : {S T : Signature} → HasNumbers S T → (n : ℕ) (a : Argument) → IsScopedArgument S n a → IsScopedArgument T n a
argument-wider m n (Plain type level) h = (scoped-wider m h.0, h.1)
argument-wider m n (Recursive inner targets level) h = (telescope-wider m n inner h.0, all-wider m (n + length inner) targets h.1, h.2)

arguments-wider : {S T : Signature} → HasNumbers S T → (n : ℕ) (arguments : List Argument) → IsScopedArguments S n arguments → IsScopedArguments T n arguments
arguments-wider m n [] h = tt
arguments-wider m n (a ∷ arguments) h = (argument-wider m n a h.0, arguments-wider m (n + 1) arguments h.1)

constructor-wider : {S T : Signature} → HasNumbers S T → (n count : ℕ) (c : Constructor) → IsScopedConstructor S n count c → IsScopedConstructor T n count c
constructor-wider m n count c h = record {
  arguments = arguments-wider m n c.arguments h.arguments;
  targets = all-wider m (n + length c.arguments) c.targets h.targets;
  target_count = h.target_count;
}

family-there : (S : Signature) (count n : ℕ) (f : Family) → IsScopedFamily S n f → IsScopedFamily (with_count S count) n f
family-there S count n f h = record {
  parameters = telescope-wider (first-numbers-there S count n) 0 f.parameters h.parameters;
  indices = telescope-wider (first-numbers-there S count n) (length f.parameters) (index_types f) h.indices;
  level = h.level;
  index_levels = h.index_levels;
  constructors =
      All-weaker (IsScopedConstructor (first_entries S (n + 1)) (length f.parameters) (length f.indices))
      (IsScopedConstructor (first_entries (with_count S count) (n + 1)) (length f.parameters) (length f.indices))
      (λ c k. constructor-wider (first-numbers-there S count (n + 1)) (length f.parameters) (length f.indices) c k) f.constructors h.constructors;
}

entry-scoped : (S : Signature) (count n : ℕ) (e : Entry) → IsScopedEntry S n e → IsScopedEntry (with_count S count) n (bare e)
entry-scoped S count n (FamilyOf f) h = family-there S count n f h
entry-scoped S count n (EliminatorAt g m) h = ((first-numbers-there S count n).families g h.0, h.1)
entry-scoped S count n (AxiomKAt i m) h = (h.0, h.1, (first-numbers-there S count n).constructors (equality i) 0 h.2)
entry-scoped S count n (Definition name type body) h = (sort-scoped 0, inl (sort-scoped 0))

pub ready-there : (S : Signature) (count : ℕ) → IsReady S → IsReady (with_count S count)
ready-there S count ready = record {
  scoped = λ n e at. by n e (which S count n e at);
  identities = λ i low. record { level = low; entry = entry-there S count (equality i) (FamilyOf (equality_family i)) (ready.identities i low).entry };
}
  where
    by : (n : ℕ) (e : Entry) → IsWhich S count n e → IsScopedEntry (with_count S count) n e
    by n e (IsWhich.old from at is) = subst (IsScopedEntry (with_count S count) n) is (entry-scoped S count n from (ready.scoped n from at))
    by n e (IsWhich.new from to is) = subst (IsScopedEntry (with_count S count) n) is (sort-scoped 0, inl (sort-scoped 0))
