-- A draft needs exactly the names that its terms mention and the signature lacks, each once.
use Rattle.std.proofs.Common.{◌≡◌, ◌≢◌, inl, inr, ℕ, zero, suc, ◌+◌, ◌-◌, ◌<◌, ◌≤◌, ◌||◌, ◌&&◌, ◌==◌, Bool, true, false, Option, Some, None, List, [], ◌∷◌, ◌++◌, length, get_or, slice_get, flat_map, All, Any, AllPairs, Contains, refl, sym, ap, ap₂, ◌∙◌, subst, arith}
use Rattle.std.specs.List.{list_any}
use Rattle.std.proofs.lemmas.Bool.{true≢false, eqb-true, eq-eqb}
use Rattle.theory.specs.Terms.{Term, Var, Sort, Pi, Lam, App, Let, Const, Fam, Con, Elim, AxiomK}
use Rattle.theory.specs.Signatures.{Signature, Entry, FamilyOf, EliminatorAt, AxiomKAt, Definition}
use Rattle.core_sig.specs.DraftScopes.{IsDraftNumber, HasDraftEntries}
use Rattle.core_sig.specs.Drafts.{Draft}
use Rattle.core_sig.specs.Instances.{is_eliminator, is_axiom_k}
use Rattle.core_sig.specs.Names.{find}
use Rattle.core_sig.specs.declared.entry.Found.{Found}
use Rattle.kernel_reduce.proofs.LookUps.{both-true}
use Rattle.unification.proofs.Cases.{first-of_two, second-of_two}
use Rattle.tree_translation.specs.Needed.{needed, needed_in, entry_terms, unless_there, unless_known, is_found, eliminator_name, axiom_k_name}
use Rattle.tree_translation.specs.Laws.{IsAmong, StandsIn, IsNeeded, NeededIsExact, NeededOnce}
use Rattle.tree_translation.proofs.NewNames.{longer, new-differ, with-among}
use Rattle.tree_translation.proofs.LevelLists.{there-get, get-there}
use Rattle.tree_translation.proofs.Anywhere.{any-left, any-right, any-cases, any-flat, flat-any, any-only, only-any}
use Rattle.tree_translation.proofs.EntryTerms.{entry-terms}

-- ---- instances

any-contains : (test : Entry → Bool) (e : Entry) → ((x : Entry) → test x ≡ true → x ≡ e) → (entries : List Entry) → list_any test entries ≡ true
    → Contains entries e
any-contains test e is [] h = absurd (true≢false (sym h))
any-contains test e is (x ∷ entries) h = by (test x) refl h (any-contains test e is entries)
  where
    by : (b : Bool) → test x ≡ b → (b || list_any test entries) ≡ true → (list_any test entries ≡ true → Contains entries e) → Contains (x ∷ entries) e
    by true t k rest = (zero, omega arith, is x t)
    by false t k rest = let r = rest k in (suc r.0, omega (arith, r.1), r.2)

contains-any : (test : Entry → Bool) (e : Entry) → test e ≡ true → (entries : List Entry) → Contains entries e → list_any test entries ≡ true
contains-any test e is [] (k, within, at) = absurd (omega arith)
contains-any test e is (x ∷ entries) (zero, within, at) = ap (λ b. b || list_any test entries) (ap test at ∙ is)
contains-any test e is (x ∷ entries) (suc k, within, at) = by (test x) (contains-any test e is entries (k, omega arith, at))
  where
    by : (b : Bool) → list_any test entries ≡ true → (b || list_any test entries) ≡ true
    by true h = refl
    by false h = h

eliminator-is : (n m : ℕ) (x : Entry) → is_eliminator n m x ≡ true → x ≡ EliminatorAt n m
eliminator-is n m (EliminatorAt f l) h =
    let parts = both-true (f == n) (l == m) h in ap₂ EliminatorAt (eqb-true f n parts.0) (eqb-true l m parts.1)
eliminator-is n m (FamilyOf f) h = absurd (true≢false (sym h))
eliminator-is n m (AxiomKAt i l) h = absurd (true≢false (sym h))
eliminator-is n m (Definition name type body) h = absurd (true≢false (sym h))

axiom_k-is : (i m : ℕ) (x : Entry) → is_axiom_k i m x ≡ true → x ≡ AxiomKAt i m
axiom_k-is i m (AxiomKAt j l) h =
    let parts = both-true (j == i) (l == m) h in ap₂ AxiomKAt (eqb-true j i parts.0) (eqb-true l m parts.1)
axiom_k-is i m (FamilyOf f) h = absurd (true≢false (sym h))
axiom_k-is i m (EliminatorAt n l) h = absurd (true≢false (sym h))
axiom_k-is i m (Definition name type body) h = absurd (true≢false (sym h))

itself : (n m : ℕ) → ((n == n) && (m == m)) ≡ true
itself n m = ap₂ ◌&&◌ (eq-eqb n n refl) (eq-eqb m m refl)

-- names that are not there yet
unless-false : (b : Bool) (own name : List ℕ) → IsAmong name (unless_there b own) → (b ≡ false) × (own ≡ name)
unless-false true own name (k, x, within, at, e) = absurd (omega arith)
unless-false false own name h = (refl, only-any (λ other. other ≡ name) own h)

unless-there : (b : Bool) (own name : List ℕ) → b ≡ false → own ≡ name → IsAmong name (unless_there b own)
unless-there true own name h e = absurd (true≢false h)
unless-there false own name h e = any-only (λ other. other ≡ name) own e

not-found : (o : Option Found) → is_found o ≡ false → o ≡ None
not-found None h = refl
not-found (Some found) h = absurd (true≢false h)

-- ---- symbols

-- a symbol that needs this name
data Needs (S : Signature) (base : ℕ) (names : List (List ℕ)) (name : List ℕ) : Term → Type 0 where
  constant : (i : ℕ) → slice_get names i ≡ Some name → find S name ≡ None → Needs S base names name (Const (base + i))
  eliminator : (n m : ℕ) → name ≡ eliminator_name S n m → ¬ Contains S.entries (EliminatorAt n m) → Needs S base names name (Elim n m)
  axiom_k : (i m : ℕ) → name ≡ axiom_k_name i m → ¬ Contains S.entries (AxiomKAt i m) → Needs S base names name (AxiomK i m)

record StandsThere (S : Signature) (base : ℕ) (names : List (List ℕ)) (name : List ℕ) (t : Term) : Type 0 where
  u : Term
  stands : StandsIn u t
  needs : Needs S base names name u

within : (S : Signature) (base : ℕ) (names : List (List ℕ)) (name : List ℕ) (t t' : Term) → ((u : Term) → StandsIn u t → StandsIn u t')
    → StandsThere S base names name t → StandsThere S base names name t'
within S base names name t t' deeper h = record { u = h.u; stands = deeper h.u h.stands; needs = h.needs }

symbol : (S : Signature) (base : ℕ) (names : List (List ℕ)) (name : List ℕ) (u : Term) → Needs S base names name u → StandsThere S base names name u
symbol S base names name u needs = record { u = u; stands = StandsIn.itself; needs = needs }

constant-stands : (S : Signature) (base : ℕ) (names : List (List ℕ)) (name : List ℕ) (c : ℕ) → IsDraftNumber S base (length names) c
    → IsAmong name (needed_in S base names (Const c)) → StandsThere S base names name (Const c)
constant-stands S base names name c (inl is) h =
    let none : IsAmong name [] = subst (IsAmong name) (first-of_two c base [] (unless_known S (get_or names (c - base) [])) is.0) h in
    absurd (let w : none.0 < length {A = List ℕ} [] = none.2 in omega arith)
constant-stands S base names name c (inr is) h =
    let le : base ≤ c = is.0 in
    let lt : c < base + length names = is.1 in
    let some : IsAmong name (unless_known S (get_or names (c - base) [])) =
    subst (IsAmong name) (second-of_two c base [] (unless_known S (get_or names (c - base) [])) is.0) h in
    let parts = unless-false (is_found (find S (get_or names (c - base) []))) (get_or names (c - base) []) name some in
    let at : base + (c - base) ≡ c = omega arith in
    subst (λ n. StandsThere S base names name (Const n)) at
    (symbol S base names name (Const (base + (c - base)))
    (Needs.constant (c - base) (there-get names (c - base) [] (omega arith) ∙ ap Some parts.1)
    (ap (find S) (sym parts.1) ∙ not-found (find S (get_or names (c - base) [])) parts.0)))

stands-there : (S : Signature) (base : ℕ) (names : List (List ℕ)) (name : List ℕ) (t : Term) → HasDraftEntries S base (length names) t
    → IsAmong name (needed_in S base names t) → StandsThere S base names name t
stands-there S base names name (Pi a b) has h = elim (any-cases (λ other. other ≡ name) (needed_in S base names a) (needed_in S base names b) h) [
  | inl k ↦ within S base names name a (Pi a b) (λ u. StandsIn.domain a b) (stands-there S base names name a has.0 k)
  | inr k ↦ within S base names name b (Pi a b) (λ u. StandsIn.codomain a b) (stands-there S base names name b has.1 k)
]
stands-there S base names name (Lam a b) has h = elim (any-cases (λ other. other ≡ name) (needed_in S base names a) (needed_in S base names b) h) [
  | inl k ↦ within S base names name a (Lam a b) (λ u. StandsIn.annotation a b) (stands-there S base names name a has.0 k)
  | inr k ↦ within S base names name b (Lam a b) (λ u. StandsIn.body a b) (stands-there S base names name b has.1 k)
]
stands-there S base names name (App f a) has h = elim (any-cases (λ other. other ≡ name) (needed_in S base names f) (needed_in S base names a) h) [
  | inl k ↦ within S base names name f (App f a) (λ u. StandsIn.function f a) (stands-there S base names name f has.0 k)
  | inr k ↦ within S base names name a (App f a) (λ u. StandsIn.argument f a) (stands-there S base names name a has.1 k)
]
stands-there S base names name (Let a t b) has h =
    elim (any-cases (λ other. other ≡ name) (needed_in S base names a) (needed_in S base names t ++ needed_in S base names b) h) [
      | inl k ↦ within S base names name a (Let a t b) (λ u. StandsIn.type a t b) (stands-there S base names name a has.0 k)
      | inr l ↦ elim (any-cases (λ other. other ≡ name) (needed_in S base names t) (needed_in S base names b) l) [
        | inl k ↦ within S base names name t (Let a t b) (λ u. StandsIn.value a t b) (stands-there S base names name t has.1 k)
        | inr k ↦ within S base names name b (Let a t b) (λ u. StandsIn.scope a t b) (stands-there S base names name b has.2 k)
      ]
    ]
stands-there S base names name (Const c) has h = constant-stands S base names name c has h
stands-there S base names name (Elim n m) has h =
    let parts = unless-false (list_any (is_eliminator n m) S.entries) (eliminator_name S n m) name h in
    symbol S base names name (Elim n m)
    (Needs.eliminator n m (sym parts.1) (λ there.
    true≢false (sym (contains-any (is_eliminator n m) (EliminatorAt n m) (itself n m) S.entries there) ∙ parts.0)))
stands-there S base names name (AxiomK i m) has h =
    let parts = unless-false (list_any (is_axiom_k i m) S.entries) (axiom_k_name i m) name h in
    symbol S base names name (AxiomK i m)
    (Needs.axiom_k i m (sym parts.1) (λ there.
    true≢false (sym (contains-any (is_axiom_k i m) (AxiomKAt i m) (itself i m) S.entries there) ∙ parts.0)))
stands-there S base names name (Var n) has (k, x, inside, at, e) = absurd (omega arith)
stands-there S base names name (Sort i) has (k, x, inside, at, e) = absurd (omega arith)
stands-there S base names name (Fam n) has (k, x, inside, at, e) = absurd (omega arith)
stands-there S base names name (Con n c) has (k, x, inside, at, e) = absurd (omega arith)

-- ---- and back

lacking : (test : Entry → Bool) (e : Entry) → ((x : Entry) → test x ≡ true → x ≡ e) → (entries : List Entry) → ¬ Contains entries e
    → list_any test entries ≡ false
lacking test e is entries not = by (list_any test entries) refl
  where
    by : (b : Bool) → list_any test entries ≡ b → b ≡ false
    by true h = absurd (not (any-contains test e is entries h))
    by false h = refl

needs-among : (S : Signature) (base : ℕ) (names : List (List ℕ)) (name : List ℕ) (u : Term) → Needs S base names name u → IsAmong name (needed_in S base names u)
needs-among S base names name _ (Needs.constant i at none) =
    let e : base + i - base ≡ i = omega arith in
    let there : get_or names (base + i - base) [] ≡ name = ap (λ k. get_or names k []) e ∙ get-there names i name [] at in
    subst (IsAmong name) (sym (second-of_two (base + i) base [] (unless_known S (get_or names (base + i - base) [])) (omega arith)))
    (unless-there (is_found (find S (get_or names (base + i - base) []))) (get_or names (base + i - base) []) name
    (ap is_found (ap (find S) there ∙ none)) there)
needs-among S base names name _ (Needs.eliminator n m is not) =
    unless-there (list_any (is_eliminator n m) S.entries) (eliminator_name S n m) name
    (lacking (is_eliminator n m) (EliminatorAt n m) (eliminator-is n m) S.entries not) (sym is)
needs-among S base names name _ (Needs.axiom_k i m is not) =
    unless-there (list_any (is_axiom_k i m) S.entries) (axiom_k_name i m) name
    (lacking (is_axiom_k i m) (AxiomKAt i m) (axiom_k-is i m) S.entries not) (sym is)

term-among : (S : Signature) (base : ℕ) (names : List (List ℕ)) (name : List ℕ) (u t : Term) → Needs S base names name u → StandsIn u t
    → IsAmong name (needed_in S base names t)
term-among S base names name u _ needs StandsIn.itself = needs-among S base names name u needs
term-among S base names name u _ needs (StandsIn.domain a b h) = any-left (λ o. o ≡ name) (needed_in S base names a) (needed_in S base names b) (term-among S base names name u a needs h)
term-among S base names name u _ needs (StandsIn.codomain a b h) = any-right (λ o. o ≡ name) (needed_in S base names a) (needed_in S base names b) (term-among S base names name u b needs h)
term-among S base names name u _ needs (StandsIn.annotation a b h) = any-left (λ o. o ≡ name) (needed_in S base names a) (needed_in S base names b) (term-among S base names name u a needs h)
term-among S base names name u _ needs (StandsIn.body a b h) = any-right (λ o. o ≡ name) (needed_in S base names a) (needed_in S base names b) (term-among S base names name u b needs h)
term-among S base names name u _ needs (StandsIn.function f a h) = any-left (λ o. o ≡ name) (needed_in S base names f) (needed_in S base names a) (term-among S base names name u f needs h)
term-among S base names name u _ needs (StandsIn.argument f a h) = any-right (λ o. o ≡ name) (needed_in S base names f) (needed_in S base names a) (term-among S base names name u a needs h)
term-among S base names name u _ needs (StandsIn.type a t b h) =
    any-left (λ o. o ≡ name) (needed_in S base names a) (needed_in S base names t ++ needed_in S base names b) (term-among S base names name u a needs h)
term-among S base names name u _ needs (StandsIn.value a t b h) =
    any-right (λ o. o ≡ name) (needed_in S base names a) (needed_in S base names t ++ needed_in S base names b)
    (any-left (λ o. o ≡ name) (needed_in S base names t) (needed_in S base names b) (term-among S base names name u t needs h))
term-among S base names name u _ needs (StandsIn.scope a t b h) =
    any-right (λ o. o ≡ name) (needed_in S base names a) (needed_in S base names t ++ needed_in S base names b)
    (any-right (λ o. o ≡ name) (needed_in S base names t) (needed_in S base names b) (term-among S base names name u b needs h))

-- ---- drafts

needed-is : (S : Signature) (d : Draft) (name : List ℕ) (u : Term) → Any (StandsIn u) (entry_terms d.entry) → Needs S d.base d.names name u → IsNeeded S d name
needed-is S d name _ h (Needs.constant i at none) = IsNeeded.definition i at h none
needed-is S d name _ h (Needs.eliminator n m is not) = IsNeeded.eliminator n m is h not
needed-is S d name _ h (Needs.axiom_k i m is not) = IsNeeded.axiom_k i m is h not

in-terms : (S : Signature) (d : Draft) (name : List ℕ) (terms : List Term) → All (HasDraftEntries S d.base (length d.names)) terms
    → Any (λ t. IsAmong name (needed_in S d.base d.names t)) terms
    → (u : Term) × Any (StandsIn u) terms × Needs S d.base d.names name u
in-terms S d name terms all (k, t, inside, at, h) =
    let r = stands-there S d.base d.names name t (subst (HasDraftEntries S d.base (length d.names)) at (all k t inside)) h in
    (r.u, (k, t, inside, at, r.stands), r.needs)

from-needs : (S : Signature) (d : Draft) (name : List ℕ) (u : Term) → Needs S d.base d.names name u → Any (StandsIn u) (entry_terms d.entry)
    → IsAmong name (needed S d)
from-needs S d name u needs (k, t, inside, at, stands) =
    (with-among (flat_map (needed_in S d.base d.names) (entry_terms d.entry)) name).1
    (flat-any (λ other. other ≡ name) (needed_in S d.base d.names) (entry_terms d.entry)
    (k, t, inside, at, term-among S d.base d.names name u t needs stands))

back : (S : Signature) (d : Draft) (name : List ℕ) → IsNeeded S d name → IsAmong name (needed S d)
back S d name (IsNeeded.definition i at h none) = from-needs S d name (Const (d.base + i)) (Needs.constant i at none) h
back S d name (IsNeeded.eliminator n m is h not) = from-needs S d name (Elim n m) (Needs.eliminator n m is not) h
back S d name (IsNeeded.axiom_k i m is h not) = from-needs S d name (AxiomK i m) (Needs.axiom_k i m is not) h

pub needed_is_exact : NeededIsExact
needed_is_exact S d name scoped = (
  λ h.
      let r = in-terms S d name (entry_terms d.entry) (entry-terms S d.base (length d.names) d.entry scoped)
      (any-flat (λ other. other ≡ name) (needed_in S d.base d.names) (entry_terms d.entry)
      ((with-among (flat_map (needed_in S d.base d.names) (entry_terms d.entry)) name).0 h)) in
      needed-is S d name r.0 r.1 r.2,
  back S d name,
)

pub needed_once : NeededOnce
needed_once S d =
    let all = flat_map (needed_in S d.base d.names) (entry_terms d.entry) in
    let r = longer (λ name. Unit {0}) [] all (λ k x inside. tt) in
    subst (λ names. AllPairs (λ one other. one ≢ other) names) (sym r.added) (new-differ [] r.new r.is_new)
