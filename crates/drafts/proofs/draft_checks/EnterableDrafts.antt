-- A draft that is found to be one that may enter is such a draft.
use Rattle.std.proofs.Common.{◌≡◌, inl, inr, ℕ, ◌-◌, ◌≤◌, ◌==◌, Bool, true, false, ◌&&◌, ◌||◌, nat_lt, cond, Option, Some, None, List, [], ◌∷◌, All, length, slice_get, IsTrue, Result, Ok, Err, IfOk, refl, sym, ◌∙◌, subst as transport, arith}
use Rattle.std.specs.Option.{is_some}
use Rattle.std.proofs.lemmas.Bool.Decides.{nat_tests}
use Rattle.std.proofs.lemmas.List.Elements.{All-cons, All-nil}
use Rattle.std.proofs.lemmas.Bool.{and_parts, and_from}
use Rattle.theory.specs.Terms.{Term, free_of, height}
use Rattle.theory.specs.Terms.Term.{Var, Sort, Pi, Lam, App, Let, Const, Fam, Con, Elim, AxiomK}
use Rattle.theory.specs.Signatures.{Entry, Signature}
use Rattle.theory.specs.Signatures.Entry.{FamilyOf, EliminatorAt, AxiomKAt, Definition}
use Rattle.core_terms.specs.Answers.{Gives, is_low}
use Rattle.core_terms.specs.declared.stop.Stop.{Stop}
use Rattle.core_terms.proofs.Builders.{ok_is}
use Rattle.core_sig.specs.DraftScopes.{HasDraftEntries, IsDraftNumber, IsDraftTerm}
use Rattle.core_sig.specs.Drafts.{Draft}
use Rattle.core_sig.specs.EntryTerms.{EachTerm}
use Rattle.core_sig.specs.Names.{find}
use Rattle.core_sig.specs.ScopeTests.{is_constant}
use Rattle.core_sig.specs.declared.entry.Found.{Found}
use Rattle.core_sig.specs.declared.entry.Found.TheVariants.{Entry as FoundEntry, Con as FoundCon}
use Rattle.core_sig.proofs.ScopeTests.{entries-tell}
use Rattle.clause_reports.specs.Generated.{Generated, generated_by}
use Rattle.drafts.specs.draft_entering.Conditions.{IsDefined, IsDefinition, IsEnterable, IsEnterableDraft, IsGeneratedName}
use Rattle.drafts.specs.draft_checks.Checks.{has_draft_entries, is_definition_found, is_draft_entry, is_draft_number, is_draft_term, name_enters, names_enter}
use Rattle.drafts.specs.draft_checks.Laws.{EnterableMayEnter}

-- ---- terms

number-tells : (S : Signature) (base count c : ℕ) → is_draft_number S base count c ≡ true → IsDraftNumber S base count c
number-tells S base count c h = go (nat_lt c base) refl h
  where
    go : (b : Bool) → nat_lt c base ≡ b → cond b (is_constant (slice_get S.entries c)) (nat_lt (c - base) count) ≡ true → IsDraftNumber S base count c
    go true is k = inl (grind (arith, nat_tests), entries-tell S (Const c) k)
    go false is k = inr (grind (arith, nat_tests), grind (arith, nat_tests))

pub draft-entries-tell : (S : Signature) (base count : ℕ) (t : Term) → has_draft_entries S base count t ≡ true → HasDraftEntries S base count t
draft-entries-tell S base count (Pi a b) h =
    let p = and_parts (has_draft_entries S base count a) (has_draft_entries S base count b) h in
    (draft-entries-tell S base count a p.0, draft-entries-tell S base count b p.1)
draft-entries-tell S base count (Lam a b) h =
    let p = and_parts (has_draft_entries S base count a) (has_draft_entries S base count b) h in
    (draft-entries-tell S base count a p.0, draft-entries-tell S base count b p.1)
draft-entries-tell S base count (App f a) h =
    let p = and_parts (has_draft_entries S base count f) (has_draft_entries S base count a) h in
    (draft-entries-tell S base count f p.0, draft-entries-tell S base count a p.1)
draft-entries-tell S base count (Let a t b) h =
    let p = and_parts (has_draft_entries S base count a) (has_draft_entries S base count t && has_draft_entries S base count b) h in
    let q = and_parts (has_draft_entries S base count t) (has_draft_entries S base count b) p.1 in
    (draft-entries-tell S base count a p.0, draft-entries-tell S base count t q.0, draft-entries-tell S base count b q.1)
draft-entries-tell S base count (Const c) h = number-tells S base count c h
draft-entries-tell S base count (Fam n) h = entries-tell S (Fam n) h
draft-entries-tell S base count (Con n c) h = entries-tell S (Con n c) h
draft-entries-tell S base count (Elim n m) h = entries-tell S (Elim n m) h
draft-entries-tell S base count (Var v) h = tt
draft-entries-tell S base count (Sort i) h = tt
draft-entries-tell S base count (AxiomK i m) h = tt

-- a term that is found to be one of a draft is so, and is not too high
term-tells : (S : Signature) (base count : ℕ) (t : Term) → is_draft_term S base count t ≡ true → IsDraftTerm S base count 0 t × (height t ≤ 2000)
term-tells S base count t h =
    let p = and_parts (free_of t == 0) (is_low t && has_draft_entries S base count t) h in
    let q = and_parts (is_low t) (has_draft_entries S base count t) p.1 in
    (record { variables = grind (arith, nat_tests); entries = draft-entries-tell S base count t q.1 }, grind (arith, nat_tests))

-- ---- entries

pub record IsDraftEntry (S : Signature) (base count : ℕ) (e : Entry) : Type 0 where
  pub definition : IsDefinition e
  pub scoped : EachTerm (IsDraftTerm S base count) e
  pub low : EachTerm (λ n t. height t ≤ 2000) e

entry-tells : (S : Signature) (base count : ℕ) (e : Entry) → is_draft_entry S base count e ≡ true → IsDraftEntry S base count e
entry-tells S base count (Definition name type body) h =
    let p = and_parts (is_draft_term S base count type) (is_draft_term S base count body) h in
    let a = term-tells S base count type p.0 in
    let b = term-tells S base count body p.1 in
    record { definition = tt; scoped = (a.0, b.0); low = (a.1, b.1) }
entry-tells S base count (FamilyOf f) h = absurd (grind arith)
entry-tells S base count (EliminatorAt n m) h = absurd (grind arith)
entry-tells S base count (AxiomKAt i m) h = absurd (grind arith)

-- ---- names

found-tells : (S : Signature) (name : List ℕ) (found : Option Found) → find S name ≡ found → is_definition_found S found ≡ true → IsDefined S name
found-tells S name (Some (FoundEntry n)) is h = (n, is, entries-tell S (Const n) h)
found-tells S name (Some (FoundCon f c)) is h = absurd (grind arith)
found-tells S name None is h = absurd (grind arith)

generated-tells : (S : Signature) (name : List ℕ) (g : Option Generated) → generated_by S name ≡ g → is_some g ≡ true → IsGeneratedName S name
generated-tells S name (Some g) is h = (g, is)
generated-tells S name None is h = absurd (grind arith)

name-tells : (S : Signature) (name : List ℕ) → name_enters S name ≡ true → IsEnterable S name
name-tells S name h = go (is_definition_found S (find S name)) refl h
  where
    go : (b : Bool) → is_definition_found S (find S name) ≡ b → (b || is_some (generated_by S name)) ≡ true → IsEnterable S name
    go true is k = inl (found-tells S name (find S name) refl is)
    go false is k = inr (generated-tells S name (generated_by S name) refl k)

pub names-tell : (S : Signature) (names : List (List ℕ)) → names_enter S names ≡ true → All (IsEnterable S) names
names-tell S [] h = All-nil (IsEnterable S)
names-tell S (name ∷ names) h =
    let p = and_parts (name_enters S name) (names_enter S names) h in
    All-cons (IsEnterable S) name names (name-tells S name p.0) (names-tell S names p.1)

pub may-enter : EnterableMayEnter
may-enter S d h =
    let p = and_parts (is_draft_entry S d.base (length d.names) d.entry) (names_enter S d.names) h in
    let e = entry-tells S d.base (length d.names) d.entry p.0 in
    record { definition = e.definition; scoped = e.scoped; low = e.low; names = names-tell S d.names p.1 }

-- a draft that is found to be one that may enter is one, where the entry is tested before the names
pub tested-tells : (S : Signature) (d : Draft) (names : List (List ℕ)) → names ≡ d.names → is_draft_entry S d.base (length names) d.entry ≡ true
    → (r : Result Bool Stop) → Gives (λ b. b) r (Ok (names_enter S names)) → IfOk r (λ yes. IsTrue yes → IsEnterableDraft S d)
tested-tells S d names same entry (Ok b) is =
    λ yes. may-enter S d (and_from (is_draft_entry S d.base (length d.names) d.entry) (names_enter S d.names)
    (transport (λ ns. is_draft_entry S d.base (length ns) d.entry ≡ true) same entry)
    (transport (λ ns. names_enter S ns ≡ true) same (sym (ok_is is) ∙ yes)))
tested-tells S d names same entry (Err e) is = tt
