-- Telescopic equality makes terms of a draft from terms of that draft. The names of a draft are taken as definitions after the entries of
-- its signature.
use Rattle.std.proofs.Common.{◌≡◌, ◌⊎◌, ℕ, zero, suc, ◌+◌, ◌-◌, ◌<◌, ◌≤◌, Bool, true, false, nat_lt, List, [], ◌∷◌, ◌++◌, length, map, All, Some, inl, inr, refl, ap, sym, ◌∙◌, slice_get, arith}
use Rattle.std.proofs.lemmas.Bool.Decides.{nat_tests}
use Rattle.std.proofs.lemmas.List.{length-append}
use Rattle.std.proofs.lemmas.List.Elements.{All-weaker}
use Rattle.std.proofs.lemmas.Option.{slice_get_within, none-some, same_Some}
use Rattle.theory.specs.Terms.{Term, top}
use Rattle.theory.specs.Terms.Term.{Var, Sort, Pi, Lam, App, Let, Const, Fam, Con, Elim, AxiomK}
use Rattle.theory.specs.Families.{Family}
use Rattle.theory.specs.Prelude.{prelude, equality_family}
use Rattle.theory.specs.Signatures.{Entry, FamilyOf, Definition, Signature, IsEntryAt, IsPrefix, equality}
use Rattle.theory.specs.SignatureScopes.{HasEntries, IsScoped, IsScopedTelescope}
use Rattle.theory.proofs.Lists.{slice_get-append, slice_get-append_right, slice_get-longer}
use Rattle.theory.proofs.PreludeWellFormed.{equality_at}
use Rattle.core_sig.specs.DraftScopes.{HasDraftEntries, IsDraftTerm}
use Rattle.core_sig.specs.EntryTerms.{EachInTelescope}
use Rattle.tele_eq.specs.Items.{Item}
use Rattle.tele_eq.specs.TelescopicEquality.{equations, elimination, reflexivities}
use Rattle.tele_eq.specs.Congruences.{congruences}
use Rattle.tele_eq.specs.ScopeLaws.{HasAllIdentities, AreScopedItems}
use Rattle.tele_eq.proofs.ScopeLaws.{scoped_equations, scoped_reflexivities, scoped_congruences, scoped_elimination}

-- ---- a signature with the names of a draft

abbrev named : Entry
named = Definition [] (Sort 0) (Sort 0)

-- so many definitions
abbrev definitions : ℕ → List Entry
definitions zero = []
definitions (suc count) = named ∷ definitions count

abbrev with_names : Signature → ℕ → Signature
with_names S count = record { entries = S.entries ++ definitions count; has_k = S.has_k }

length-definitions : (count : ℕ) → length (definitions count) ≡ count
length-definitions zero = refl
length-definitions (suc count) = ap suc (length-definitions count)

definition-at : (count k : ℕ) → k < count → slice_get (definitions count) k ≡ Some named
definition-at zero k lt = absurd (omega arith)
definition-at (suc count) zero lt = refl
definition-at (suc count) (suc k) lt = definition-at count k (omega arith)

definition-only : (count k : ℕ) (e : Entry) → slice_get (definitions count) k ≡ Some e → named ≡ e
definition-only zero k e at = absurd (none-some e at)
definition-only (suc count) zero e at = same_Some named e at
definition-only (suc count) (suc k) e at = definition-only count k e at

-- an entry of the signature, or a name
which : (S : Signature) (count n : ℕ) (e : Entry) → IsEntryAt (with_names S count) n e → IsEntryAt S n e ⊎ ((length S.entries ≤ n) × (n < length S.entries + count) × (named ≡ e))
which S count n e at = by (nat_lt n (length S.entries)) refl
  where
    within : n < length S.entries + count
    within = omega (arith, slice_get_within (S.entries ++ definitions count) n e at, length-append S.entries (definitions count), length-definitions count)

    by : (b : Bool) → nat_lt n (length S.entries) ≡ b → IsEntryAt S n e ⊎ ((length S.entries ≤ n) × (n < length S.entries + count) × (named ≡ e))
    by true is =
        let low : n < length S.entries = grind (arith, nat_tests) in inl (sym (slice_get-append S.entries (definitions count) n low) ∙ at)
    by false is =
        let high : length S.entries ≤ n = grind (arith, nat_tests) in
        let place : length S.entries + (n - length S.entries) ≡ n = omega arith in
        let behind = sym (slice_get-append_right S.entries (definitions count) (n - length S.entries)) ∙ (ap (slice_get (S.entries ++ definitions count)) place ∙ at) in
        inr (high, within, definition-only count (n - length S.entries) e behind)

-- a family is an entry of the signature
family-there : (S : Signature) (count n : ℕ) (f : Family) → IsEntryAt (with_names S count) n (FamilyOf f) → IsEntryAt S n (FamilyOf f)
family-there S count n f at = elim (which S count n (FamilyOf f) at) [
  | inl there ↦ there
  | inr (high, low, is) ↦ absurd (grind arith)
]

name-there : (S : Signature) (count c : ℕ) → length S.entries ≤ c → c < length S.entries + count → IsEntryAt (with_names S count) c named
name-there S count c from to =
    let place : length S.entries + (c - length S.entries) ≡ c = omega arith in
    ap (slice_get (S.entries ++ definitions count)) (sym place)
    ∙ (slice_get-append_right S.entries (definitions count) (c - length S.entries) ∙ definition-at count (c - length S.entries) (omega arith))

-- ---- terms over both

to-entries : (S : Signature) (count : ℕ) (t : Term) → HasDraftEntries S (length S.entries) count t → HasEntries (with_names S count) t
to-entries S count (Pi a b) h = (to-entries S count a h.0, to-entries S count b h.1)
to-entries S count (Lam a b) h = (to-entries S count a h.0, to-entries S count b h.1)
to-entries S count (App f a) h = (to-entries S count f h.0, to-entries S count a h.1)
to-entries S count (Let a t b) h = (to-entries S count a h.0, to-entries S count t h.1, to-entries S count b h.2)
to-entries S count (Const c) (inl (below, (name, type, body, at))) =
    (name, type, body, slice_get-longer S.entries (definitions count) c (Definition name type body) at)
to-entries S count (Const c) (inr (from, to)) = ([], Sort 0, Sort 0, name-there S count c from to)
to-entries S count (Fam n) (f, at) = (f, slice_get-longer S.entries (definitions count) n (FamilyOf f) at)
to-entries S count (Con n c) (f, at, low) = (f, slice_get-longer S.entries (definitions count) n (FamilyOf f) at, low)
to-entries S count (Elim n m) (f, at) = (f, slice_get-longer S.entries (definitions count) n (FamilyOf f) at)
to-entries S count (Var v) h = tt
to-entries S count (Sort i) h = tt
to-entries S count (AxiomK i m) h = tt

from-entries : (S : Signature) (count : ℕ) (t : Term) → HasEntries (with_names S count) t → HasDraftEntries S (length S.entries) count t
from-entries S count (Pi a b) h = (from-entries S count a h.0, from-entries S count b h.1)
from-entries S count (Lam a b) h = (from-entries S count a h.0, from-entries S count b h.1)
from-entries S count (App f a) h = (from-entries S count f h.0, from-entries S count a h.1)
from-entries S count (Let a t b) h = (from-entries S count a h.0, from-entries S count t h.1, from-entries S count b h.2)
from-entries S count (Const c) (name, type, body, at) = elim (which S count c (Definition name type body) at) [
  | inl there ↦ inl (slice_get_within S.entries c (Definition name type body) there, (name, type, body, there))
  | inr (high, low, is) ↦ inr (high, low)
]
from-entries S count (Fam n) (f, at) = (f, family-there S count n f at)
from-entries S count (Con n c) (f, at, low) = (f, family-there S count n f at, low)
from-entries S count (Elim n m) (f, at) = (f, family-there S count n f at)
from-entries S count (Var v) h = tt
from-entries S count (Sort i) h = tt
from-entries S count (AxiomK i m) h = tt

abbrev D : Signature → ℕ → ℕ → Term → Type 0
D S count n t = IsDraftTerm S (length S.entries) count n t

to-scoped : (S : Signature) (count n : ℕ) (t : Term) → D S count n t → IsScoped (with_names S count) n t
to-scoped S count n t h = record { variables = h.variables; entries = to-entries S count t h.entries }

from-scoped : (S : Signature) (count n : ℕ) (t : Term) → IsScoped (with_names S count) n t → D S count n t
from-scoped S count n t h = record { variables = h.variables; entries = from-entries S count t h.entries }

to-all : (S : Signature) (count n : ℕ) (ts : List Term) → All (D S count n) ts → All (IsScoped (with_names S count) n) ts
to-all S count n ts h = All-weaker (D S count n) (IsScoped (with_names S count) n) (to-scoped S count n) ts h

from-all : (S : Signature) (count n : ℕ) (ts : List Term) → All (IsScoped (with_names S count) n) ts → All (D S count n) ts
from-all S count n ts h = All-weaker (IsScoped (with_names S count) n) (D S count n) (from-scoped S count n) ts h

to-telescope : (S : Signature) (count n : ℕ) (tele : List Term) → EachInTelescope (D S count) n tele → IsScopedTelescope (with_names S count) n tele
to-telescope S count n [] h = tt
to-telescope S count n (a ∷ tele) h = (to-scoped S count n a h.0, to-telescope S count (n + 1) tele h.1)

from-telescope : (S : Signature) (count n : ℕ) (tele : List Term) → IsScopedTelescope (with_names S count) n tele → EachInTelescope (D S count) n tele
from-telescope S count n [] h = tt
from-telescope S count n (a ∷ tele) h = (from-scoped S count n a h.0, from-telescope S count (n + 1) tele h.1)

-- ---- telescopes of a draft

-- a telescope after n variables, with levels that types have
pub record AreDraftItems (S : Signature) (count n : ℕ) (X : List Item) : Type 0 where
  pub types : EachInTelescope (IsDraftTerm S (length S.entries) count) n (map (λ item. item.type) X)
  pub levels : All (λ item. item.level < top) X

to-items : (S : Signature) (count n : ℕ) (X : List Item) → AreDraftItems S count n X → AreScopedItems (with_names S count) n X
to-items S count n X h = record { types = to-telescope S count n (map (λ item. item.type) X) h.types; levels = h.levels }

identities : (S : Signature) (count : ℕ) → IsPrefix (prelude S.has_k) S → HasAllIdentities (with_names S count)
identities S count first i low = record {
  level = low;
  entry =
      slice_get-longer S.entries (definitions count) (equality i) (FamilyOf (equality_family i))
      (ap (λ es. slice_get es (equality i)) first.entries
      ∙ slice_get-longer (prelude S.has_k).entries first.more (equality i) (FamilyOf (equality_family i)) (equality_at top i low));
}

pub draft-equations : (S : Signature) (count n : ℕ) (X : List Item) (left right : List Term) → IsPrefix (prelude S.has_k) S → AreDraftItems S count n X
    → All (IsDraftTerm S (length S.entries) count n) left → All (IsDraftTerm S (length S.entries) count n) right
    → EachInTelescope (IsDraftTerm S (length S.entries) count) n (equations X left right)
draft-equations S count n X left right first items l r =
    from-telescope S count n (equations X left right)
    (scoped_equations (with_names S count) n X left right (identities S count first) (to-items S count n X items) (to-all S count n left l) (to-all S count n right r))

pub draft-reflexivities : (S : Signature) (count n : ℕ) (X : List Item) (terms : List Term) → IsPrefix (prelude S.has_k) S → AreDraftItems S count n X
    → All (IsDraftTerm S (length S.entries) count n) terms → All (IsDraftTerm S (length S.entries) count n) (reflexivities X terms)
draft-reflexivities S count n X terms first items all =
    from-all S count n (reflexivities X terms)
    (scoped_reflexivities (with_names S count) n X terms (identities S count first) (to-items S count n X items) (to-all S count n terms all))

pub draft-congruences : (S : Signature) (count n : ℕ) (X Y : List Item) (f left right eqs : List Term) → IsPrefix (prelude S.has_k) S → AreDraftItems S count n X → AreDraftItems S count n Y
    → All (IsDraftTerm S (length S.entries) count (n + length X)) f → All (IsDraftTerm S (length S.entries) count n) left → All (IsDraftTerm S (length S.entries) count n) right
    → All (IsDraftTerm S (length S.entries) count n) eqs → All (IsDraftTerm S (length S.entries) count n) (congruences X Y f left right eqs)
draft-congruences S count n X Y f left right eqs first xs ys fs l r e =
    from-all S count n (congruences X Y f left right eqs)
    (scoped_congruences (with_names S count) n X Y f left right eqs (identities S count first) (to-items S count n X xs) (to-items S count n Y ys) (to-all S count (n + length X) f fs)
    (to-all S count n left l) (to-all S count n right r) (to-all S count n eqs e))

pub draft-elimination : (S : Signature) (count n : ℕ) (X : List Item) (m : ℕ) (head base : Term) (left right eqs : List Term) → IsPrefix (prelude S.has_k) S → AreDraftItems S count n X
    → IsDraftTerm S (length S.entries) count n head → IsDraftTerm S (length S.entries) count n base → All (IsDraftTerm S (length S.entries) count n) left
    → All (IsDraftTerm S (length S.entries) count n) right → All (IsDraftTerm S (length S.entries) count n) eqs → IsDraftTerm S (length S.entries) count n (elimination X m head base left right eqs)
draft-elimination S count n X m head base left right eqs first items h b l r e =
    from-scoped S count n (elimination X m head base left right eqs)
    (scoped_elimination (with_names S count) n X m head base left right eqs (identities S count first) (to-items S count n X items) (to-scoped S count n head h) (to-scoped S count n base b)
    (to-all S count n left l) (to-all S count n right r) (to-all S count n eqs e))
