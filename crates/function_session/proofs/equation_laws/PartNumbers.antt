-- A signature followed by a definition for each part of a plan. What is scoped over it is scoped, under its numbers in the signature
-- that has the plan's entries, over that one.
use Rattle.std.proofs.Common.{◌≡◌, ◌⊎◌, inl, inr, ℕ, zero, suc, ◌+◌, ◌-◌, ◌<◌, ◌≤◌, nat_lt, Bool, true, false, cond, Some, List, [], ◌∷◌, ◌++◌, length, slice_get, refl, sym, ap, subst as transport, ◌∙◌, arith, length-append}
use Rattle.std.specs.Prelude.{option_and_then}
use Rattle.std.specs.Option.{option_map_or}
use Rattle.std.proofs.lemmas.Bool.Decides.{nat_tests}
use Rattle.std.proofs.lemmas.Option.{none-some, slice_get_within}
use Rattle.theory.specs.Terms.{Term, Var, Sort, Pi, Lam, App, Let, Const, Fam, Con, Elim, AxiomK, free_of}
use Rattle.theory.specs.Families.{Family}
use Rattle.theory.specs.Signatures.{Entry, FamilyOf, Definition, Signature, IsEntryAt}
use Rattle.theory.specs.SignatureScopes.{IsConstantNumber, HasEntries, IsScoped}
use Rattle.theory.proofs.Lists.{some_is, slice_get-append, slice_get-append_right, slice_get-longer}
use Rattle.theory.proofs.Pushing.{entry_of-pushed}
use Rattle.theory.proofs.ScopedTerms.{HasNumbers, keeps-numbers}
use Rattle.theory.proofs.Widening.{prefix_keeps}
use Rattle.core_sig.specs.DraftScopes.{HasDraftEntries, IsDraftTerm}
use Rattle.core_sig.specs.Settling.{renumbered, entry_found}
use Rattle.tree_translation.specs.Conditions.{with_function}
use Rattle.tree_translation.specs.Plans.{Plan}
use Rattle.clause_reports.specs.Conditions.{IsDefined, IsEntered}
use Rattle.clause_reports.specs.Equations.{number_of, part_name, own_number, in_signature}

-- ---- the signature

abbrev pub part_entry : Entry
part_entry = Definition [] (Sort 0) (Sort 0)

-- so many definitions
abbrev pub part_entries : ℕ → List Entry
part_entries zero = []
part_entries (suc count) = part_entry ∷ part_entries count

abbrev pub with_parts : Signature → (count : ℕ) → Signature
with_parts S count = record { entries = S.entries ++ part_entries count; has_k = S.has_k }

length-part_entries : (count : ℕ) → length (part_entries count) ≡ count
length-part_entries zero = refl
length-part_entries (suc count) = ap suc (length-part_entries count)

part-at : (count k : ℕ) → k < count → slice_get (part_entries count) k ≡ Some part_entry
part-at zero k lt = absurd (omega arith)
part-at (suc count) zero lt = refl
part-at (suc count) (suc k) lt = part-at count k (omega arith)

part-only : (count k : ℕ) (e : Entry) → slice_get (part_entries count) k ≡ Some e → part_entry ≡ e
part-only zero k e at = absurd (none-some e at)
part-only (suc count) zero e at = some_is at
part-only (suc count) (suc k) e at = part-only count k e at

-- an entry of the signature, or that of a part
pub data IsEither (S : Signature) (count n : ℕ) (e : Entry) : Type 0 where
  old : IsEntryAt S n e → IsEither S count n e
  new : length S.entries ≤ n → n < length S.entries + count → part_entry ≡ e → IsEither S count n e

pub either-of : (S : Signature) (count n : ℕ) (e : Entry) → IsEntryAt (with_parts S count) n e → IsEither S count n e
either-of S count n e at = by (nat_lt n (length S.entries)) refl
  where
    within : n < length S.entries + count
    within = omega (arith, slice_get_within (S.entries ++ part_entries count) n e at, length-append S.entries (part_entries count), length-part_entries count)

    by : (b : Bool) → nat_lt n (length S.entries) ≡ b → IsEither S count n e
    by true is =
        let low : n < length S.entries = grind (arith, nat_tests) in
        IsEither.old (sym (slice_get-append S.entries (part_entries count) n low) ∙ at)
    by false is =
        let high : length S.entries ≤ n = grind (arith, nat_tests) in
        let place : length S.entries + (n - length S.entries) ≡ n = omega arith in
        let behind = sym (slice_get-append_right S.entries (part_entries count) (n - length S.entries))
        ∙ (ap (slice_get (S.entries ++ part_entries count)) place ∙ at) in
        IsEither.new high within (part-only count (n - length S.entries) e behind)

part-there : (S : Signature) (count c : ℕ) → length S.entries ≤ c → c < length S.entries + count → IsEntryAt (with_parts S count) c part_entry
part-there S count c from to =
    let place : length S.entries + (c - length S.entries) ≡ c = omega arith in
    ap (slice_get (S.entries ++ part_entries count)) (sym place)
    ∙ (slice_get-append_right S.entries (part_entries count) (c - length S.entries) ∙ part-at count (c - length S.entries) (omega arith))

-- the constant of a part
pub part-number : (S : Signature) (count c : ℕ) → length S.entries ≤ c → c < length S.entries + count → IsConstantNumber (with_parts S count) c
part-number S count c from to = ([], Sort 0, Sort 0, part-there S count c from to)

entry-there : (S : Signature) (count n : ℕ) (e : Entry) → IsEntryAt S n e → IsEntryAt (with_parts S count) n e
entry-there S count n e at = slice_get-longer S.entries (part_entries count) n e at

pub numbers-there : (S : Signature) (count : ℕ) → HasNumbers S (with_parts S count)
numbers-there S count = record {
  constants = λ n (name, type, body, at). (name, type, body, entry-there S count n (Definition name type body) at);
  families = λ n (f, at). (f, entry-there S count n (FamilyOf f) at);
  constructors = λ n c (f, at, low). (f, entry-there S count n (FamilyOf f) at, low);
}

-- the provisional constant of the function has the number of the first part
pub function-numbers : (S : Signature) (plan : Plan) (count : ℕ) → 0 < count → HasNumbers (with_function S plan) (with_parts S count)
function-numbers S plan count some = record {
  constants = λ n (name, type, body, at). constant n name type body (entry_of-pushed S function n (Definition name type body) at);
  families = λ n (f, at). (f, family n f (entry_of-pushed S function n (FamilyOf f) at));
  constructors = λ n c (f, at, low). (f, family n f (entry_of-pushed S function n (FamilyOf f) at), low);
}
  where
    function : Entry
    function = Definition plan.name plan.type (Const (length S.entries))

    constant : (n : ℕ) (name : List ℕ) (type body : Term) → IsEntryAt S n (Definition name type body) ⊎ ((n ≡ length S.entries) × (function ≡ Definition name type body))
        → IsConstantNumber (with_parts S count) n
    constant n name type body (inl there) = (numbers-there S count).constants n (name, type, body, there)
    constant n name type body (inr (place, same)) = part-number S count n (omega arith) (omega arith)

    family : (n : ℕ) (f : Family) → IsEntryAt S n (FamilyOf f) ⊎ ((n ≡ length S.entries) × (function ≡ FamilyOf f)) → IsEntryAt (with_parts S count) n (FamilyOf f)
    family n f (inl there) = entry-there S count n (FamilyOf f) there
    family n f (inr (place, same)) = absurd (cc)

-- ---- terms of a draft

entries-there : (S : Signature) (base count : ℕ) → base ≡ length S.entries → 0 < count → (t : Term) → HasDraftEntries S base 1 t → HasEntries (with_parts S count) t
entries-there S base count is some (Pi a b) h = (entries-there S base count is some a h.0, entries-there S base count is some b h.1)
entries-there S base count is some (Lam a b) h = (entries-there S base count is some a h.0, entries-there S base count is some b h.1)
entries-there S base count is some (App f a) h = (entries-there S base count is some f h.0, entries-there S base count is some a h.1)
entries-there S base count is some (Let a t b) h =
    (entries-there S base count is some a h.0, entries-there S base count is some t h.1, entries-there S base count is some b h.2)
entries-there S base count is some (Const c) (inl (below, there)) = (numbers-there S count).constants c there
entries-there S base count is some (Const c) (inr (from, to)) = part-number S count c (omega arith) (omega arith)
entries-there S base count is some (Fam n) h = (numbers-there S count).families n h
entries-there S base count is some (Con n c) h = (numbers-there S count).constructors n c h
entries-there S base count is some (Elim n m) h = (numbers-there S count).families n h
entries-there S base count is some (Var v) h = tt
entries-there S base count is some (Sort i) h = tt
entries-there S base count is some (AxiomK i m) h = tt

-- a term that mentions the function alone is scoped
pub draft-scoped : (S : Signature) (base count n : ℕ) (t : Term) → base ≡ length S.entries → 0 < count → IsDraftTerm S base 1 n t → IsScoped (with_parts S count) n t
draft-scoped S base count n t is some h = record { variables = h.variables; entries = entries-there S base count is some t h.entries }

-- ---- numbers of the signature with the entries

-- a defined name has the number of a constant
pub defined-number : (S : Signature) (name : List ℕ) → IsDefined S name → IsConstantNumber S (number_of S name)
defined-number S name d =
    let same : number_of S name ≡ d.number = ap (λ o. option_map_or (λ n. n) (option_and_then entry_found o) 0) d.found in
    transport (IsConstantNumber S) (sym same) (name, d.type, d.body, d.there)

constant-back : (before S : Signature) (plan : Plan) → IsEntered before S plan → (c : ℕ) (name : List ℕ) (type body : Term)
    → IsEither before (length plan.parts) c (Definition name type body) → IsConstantNumber S (own_number S plan c)
constant-back before S plan entered c name type body (IsEither.old at) = by (nat_lt c plan.base) refl
  where
    low : c < length before.entries
    low = slice_get_within before.entries c (Definition name type body) at

    by : (b : Bool) → nat_lt c plan.base ≡ b → IsConstantNumber S (cond b c (number_of S (part_name plan (c - plan.base))))
    by true is = (keeps-numbers (prefix_keeps entered.prefix)).constants c (name, type, body, at)
    by false is =
        let high : plan.base ≤ c = grind (arith, nat_tests) in
        absurd (omega (arith, low, high, entered.planned.base))
constant-back before S plan entered c name type body (IsEither.new from to same) = by (nat_lt c plan.base) refl
  where
    base : plan.base ≡ length before.entries
    base = entered.planned.base

    by : (b : Bool) → nat_lt c plan.base ≡ b → IsConstantNumber S (cond b c (number_of S (part_name plan (c - plan.base))))
    by true is =
        let below : c < plan.base = grind (arith, nat_tests) in
        absurd (omega (arith, below, from, base))
    by false is = defined-number S (part_name plan (c - plan.base)) (entered.parts (c - plan.base) (omega (arith, from, to, base)))

family-back : (before S : Signature) (plan : Plan) → IsEntered before S plan → (n : ℕ) (f : Family) → IsEither before (length plan.parts) n (FamilyOf f)
    → IsEntryAt S n (FamilyOf f)
family-back before S plan entered n f (IsEither.old at) = (prefix_keeps entered.prefix).entry n (FamilyOf f) at
family-back before S plan entered n f (IsEither.new from to same) = absurd (cc)

entries-back : (before S : Signature) (plan : Plan) → IsEntered before S plan → (t : Term) → HasEntries (with_parts before (length plan.parts)) t
    → HasEntries S (in_signature S plan t)
entries-back before S plan entered (Pi a b) h = (entries-back before S plan entered a h.0, entries-back before S plan entered b h.1)
entries-back before S plan entered (Lam a b) h = (entries-back before S plan entered a h.0, entries-back before S plan entered b h.1)
entries-back before S plan entered (App f a) h = (entries-back before S plan entered f h.0, entries-back before S plan entered a h.1)
entries-back before S plan entered (Let a t b) h =
    (entries-back before S plan entered a h.0, entries-back before S plan entered t h.1, entries-back before S plan entered b h.2)
entries-back before S plan entered (Const c) (name, type, body, at) =
    constant-back before S plan entered c name type body (either-of before (length plan.parts) c (Definition name type body) at)
entries-back before S plan entered (Fam n) (f, at) = (f, family-back before S plan entered n f (either-of before (length plan.parts) n (FamilyOf f) at))
entries-back before S plan entered (Con n c) (f, at, low) =
    (f, family-back before S plan entered n f (either-of before (length plan.parts) n (FamilyOf f) at), low)
entries-back before S plan entered (Elim n m) (f, at) = (f, family-back before S plan entered n f (either-of before (length plan.parts) n (FamilyOf f) at))
entries-back before S plan entered (Var v) h = tt
entries-back before S plan entered (Sort i) h = tt
entries-back before S plan entered (AxiomK i m) h = tt

free-renumbered : (r : ℕ → ℕ) (t : Term) → free_of (renumbered r t) ≡ free_of t
free-renumbered r (Pi a b) = omega (arith, free-renumbered r a, free-renumbered r b)
free-renumbered r (Lam a b) = omega (arith, free-renumbered r a, free-renumbered r b)
free-renumbered r (App f a) = omega (arith, free-renumbered r f, free-renumbered r a)
free-renumbered r (Let a t b) = omega (arith, free-renumbered r a, free-renumbered r t, free-renumbered r b)
free-renumbered r _ = refl

-- a term in which parts are mentioned, with their numbers
pub in_signature-scoped : (before S : Signature) (plan : Plan) → IsEntered before S plan → (n : ℕ) (t : Term)
    → IsScoped (with_parts before (length plan.parts)) n t → IsScoped S n (in_signature S plan t)
in_signature-scoped before S plan entered n t h = record {
  variables = omega (arith, free-renumbered (own_number S plan) t, h.variables);
  entries = entries-back before S plan entered t h.entries;
}
