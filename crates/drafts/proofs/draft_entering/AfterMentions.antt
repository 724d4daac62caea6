-- A draft whose mentions have entered: its terms are scoped, and it enters next.
use Rattle.std.proofs.Common.{◌≡◌, inl, inr, ℕ, zero, suc, ◌-◌, ◌<◌, false, Some, List, [], ◌++◌, length, get_or, nat_lt, if◌then◌else◌, slice_get, option_and_then, Ok, Err, refl, sym, ap, ◌∙◌, subst as transport, arith}
use Rattle.std.specs.Option.{option_map_or}
use Rattle.std.proofs.lemmas.Bool.Decides.{nat_tests}
use Rattle.std.proofs.lemmas.Bool.{le-ltb}
use Rattle.std.proofs.lemmas.List.{append-nil}
use Rattle.std.proofs.lemmas.Option.{slice_get-get_or}
use Rattle.theory.specs.Terms.{Term, Var, Sort, Pi, Lam, App, Let, Const, Fam, Con, Elim, AxiomK, free_of}
use Rattle.theory.specs.Signatures.{Signature, Entry, FamilyOf, EliminatorAt, AxiomKAt, Definition}
use Rattle.theory.specs.SignatureScopes.{IsConstantNumber, IsScoped, HasEntries}
use Rattle.core_terms.specs.Answers.{and_next}
use Rattle.core_sig.specs.DraftScopes.{HasDraftEntries, IsDraftNumber, IsDraftTerm}
use Rattle.core_sig.specs.Drafts.{Draft}
use Rattle.core_sig.specs.EntryTerms.{EachTerm}
use Rattle.core_sig.specs.Names.{find}
use Rattle.core_sig.specs.declared.entry.Found.TheVariants.{Entry as FoundEntry}
use Rattle.core_sig.specs.Settling.{entry_found, renumbered, renumbered_entry, settled_number}
use Rattle.core_sig.proofs.PlacedDrafts.{draft-longer}
use Rattle.clause_reports.specs.DraftEntering.{mentioned, mentions_in, enter_all, enter_entry, enter_draft_of}
use Rattle.clause_reports.specs.Stops.{ReportStop, Reporting}
use Rattle.drafts.specs.draft_entering.Conditions.{IsDefined, IsEnterableDraft, Extends, HasDefined}
use Rattle.drafts.specs.draft_entering.Depths.{enter_at, entry_own_name, own_name, settled_entry}
use Rattle.drafts.proofs.draft_entering.Longer.{extends-prefix}

-- ---- scoped terms

free-settled : (r : ℕ → ℕ) (t : Term) → free_of (renumbered r t) ≡ free_of t
free-settled r (Pi a b) = omega (arith, free-settled r a, free-settled r b)
free-settled r (Lam a b) = omega (arith, free-settled r a, free-settled r b)
free-settled r (App f a) = omega (arith, free-settled r f, free-settled r a)
free-settled r (Let a t b) = omega (arith, free-settled r a, free-settled r t, free-settled r b)
free-settled r _ = refl

settled-is : (S : Signature) (base : ℕ) (names : List (List ℕ)) (c : ℕ) (name : List ℕ) (n : ℕ) → nat_lt c base ≡ false → slice_get names (c - base) ≡ Some name
    → find S name ≡ Some (FoundEntry n) → settled_number S base names c ≡ n
settled-is S base names c name n behind at found =
    ap (λ b. if b then c else option_map_or (λ k. k) (option_and_then entry_found (option_and_then (find S) (slice_get names (c - base)))) c) behind
    ∙ (ap (λ o. option_map_or (λ k. k) (option_and_then entry_found (option_and_then (find S) o)) c) at
    ∙ ap (λ o. option_map_or (λ k. k) (option_and_then entry_found o) c) found)

constant-settled : (T : Signature) (base : ℕ) (names : List (List ℕ)) (c : ℕ) → IsDraftNumber T base (length names) c
    → (nat_lt c base ≡ false → IsDefined T (get_or names (c - base) [])) → IsConstantNumber T (settled_number T base names c)
constant-settled T base names c (inl (below, is)) has = transport (IsConstantNumber T) (sym (grind (arith, nat_tests))) is
constant-settled T base names c (inr (from, to)) has =
    let within : c - base < length names = omega arith in
    let there = has (le-ltb c base from) in
    transport (IsConstantNumber T)
    (sym (settled-is T base names c (get_or names (c - base) []) there.0 (le-ltb c base from) (slice_get-get_or names (c - base) [] within) there.1))
    there.2

entries-settled : (T : Signature) (base : ℕ) (names : List (List ℕ)) (t : Term) → HasDraftEntries T base (length names) t → HasDefined T base names t
    → HasEntries T (renumbered (settled_number T base names) t)
entries-settled T base names (Pi a b) (x, y) (p, q) = (entries-settled T base names a x p, entries-settled T base names b y q)
entries-settled T base names (Lam a b) (x, y) (p, q) = (entries-settled T base names a x p, entries-settled T base names b y q)
entries-settled T base names (App f a) (x, y) (p, q) = (entries-settled T base names f x p, entries-settled T base names a y q)
entries-settled T base names (Let a t b) (x, y, z) (p, q, r) =
    (entries-settled T base names a x p, entries-settled T base names t y q, entries-settled T base names b z r)
entries-settled T base names (Const c) is has = constant-settled T base names c is has
entries-settled T base names (Fam n) is has = is
entries-settled T base names (Con n c) is has = is
entries-settled T base names (Elim n m) is has = is
entries-settled T base names (Var v) is has = is
entries-settled T base names (Sort i) is has = is
entries-settled T base names (AxiomK i m) is has = is

term-settled : (T : Signature) (base : ℕ) (names : List (List ℕ)) (n : ℕ) (t : Term) → IsDraftTerm T base (length names) n t → HasDefined T base names t
    → IsScoped T n (renumbered (settled_number T base names) t)
term-settled T base names n t is has = record {
  variables = omega (arith, free-settled (settled_number T base names) t, is.variables);
  entries = entries-settled T base names t is.entries has;
}

pub draft-settled : (S T : Signature) (d : Draft) (name : List ℕ) (type body : Term) → d.entry ≡ Definition name type body → IsEnterableDraft S d → Extends S T
    → HasDefined T d.base d.names type → HasDefined T d.base d.names body → EachTerm (IsScoped T) (settled_entry T d)
draft-settled S T d name type body is draft longer has-type has-body =
    transport (λ e. EachTerm (IsScoped T) (renumbered_entry (settled_number T d.base d.names) e)) (sym is) (
      term-settled T d.base d.names 0 type (draft-longer (extends-prefix S T longer) scoped.0) has-type,
      term-settled T d.base d.names 0 body (draft-longer (extends-prefix S T longer) scoped.1) has-body,
    )
  where
    scoped : IsDraftTerm S d.base (length d.names) 0 type × IsDraftTerm S d.base (length d.names) 0 body
    scoped = transport (EachTerm (IsDraftTerm S d.base (length d.names))) is draft.scoped

-- ---- the terms of a draft

-- ---- the answer

mentioned-is : (d : Draft) (name : List ℕ) (type body : Term) → d.entry ≡ Definition name type body
    → mentioned d ≡ mentions_in d.base d.names type ++ mentions_in d.base d.names body
mentioned-is d name type body is =
    ap (λ e. mentioned (record { entry = e; base = d.base; names = d.names })) is
    ∙ ap (λ l. mentions_in d.base d.names type ++ l) (append-nil (mentions_in d.base d.names body))

deeper : (depth : ℕ) (S : Signature) (d : Draft) (name : List ℕ) (type body : Term) (left : ℕ) → 0 < depth → d.entry ≡ Definition name type body
    → enter_at depth S d left
    ≡ and_next (enter_all (enter_at (depth - 1)) S (mentions_in d.base d.names type ++ mentions_in d.base d.names body) left) (λ T rest. enter_entry T (settled_entry T d) rest)
deeper zero S d name type body left some is = absurd (omega arith)
deeper (suc depth) S d name type body left some is =
    let e : suc depth - 1 ≡ depth = omega arith in
    ap (λ ms. and_next (enter_all (enter_at depth) S ms left) (λ T rest. enter_entry T (settled_entry T d) rest)) (mentioned-is d name type body is)
    ∙ ap (λ k. and_next (enter_all (enter_at k) S (mentions_in d.base d.names type ++ mentions_in d.base d.names body) left) (λ T rest. enter_entry T (settled_entry T d) rest)) (sym e)

pub depth-met : (depth : ℕ) (S T : Signature) (d : Draft) (name : List ℕ) (type body : Term) (left mid : ℕ) → 0 < depth → d.entry ≡ Definition name type body
    → (Ok T, mid) ≡ enter_all (enter_at (depth - 1)) S (mentions_in d.base d.names type ++ mentions_in d.base d.names body) left
    → enter_entry T (settled_entry T d) mid ≡ enter_at depth S d left
depth-met depth S T d name type body left mid some at is =
    transport (λ (o : Reporting Signature). enter_entry T (settled_entry T d) mid ≡ and_next o (λ U rest. enter_entry U (settled_entry U d) rest)) is refl
    ∙ sym (deeper depth S d name type body left some at)

pub depth-refused : (depth : ℕ) (S : Signature) (d : Draft) (name : List ℕ) (type body : Term) (left mid : ℕ) (e : ReportStop) → 0 < depth → d.entry ≡ Definition name type body
    → (Err e, mid) ≡ enter_all (enter_at (depth - 1)) S (mentions_in d.base d.names type ++ mentions_in d.base d.names body) left
    → (Err e, mid) ≡ enter_at depth S d left
depth-refused depth S d name type body left mid e some at is =
    transport (λ (o : Reporting Signature). (Err e, mid) ≡ and_next o (λ U rest. enter_entry U (settled_entry U d) rest)) is refl
    ∙ sym (deeper depth S d name type body left some at)

-- the settled entry of a draft has its name
pub settled-named : (T : Signature) (d : Draft) (name : List ℕ) (type body : Term) → settled_entry T d ≡ Definition name type body → own_name d ≡ name
settled-named T d name type body is = by d.entry is
  where
    by : (e : Entry) → renumbered_entry (settled_number T d.base d.names) e ≡ Definition name type body → entry_own_name e ≡ name
    by (Definition own t b) h = ap entry_own_name h
    by (FamilyOf f) h = absurd (grind arith)
    by (EliminatorAt n m) h = absurd (grind arith)
    by (AxiomKAt i m) h = absurd (grind arith)

-- the draft that is given, and a longest chain
pub whole-depth : (S : Signature) (d : Draft) (left : ℕ) → enter_at 5 S d left ≡ enter_draft_of S d left
whole-depth S d left = refl
