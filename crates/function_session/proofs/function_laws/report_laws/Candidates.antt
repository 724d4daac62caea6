-- The candidate of a clause may enter: its terms are scoped and low, and each of its names can be generated.
use Rattle.std.proofs.Common.{◌≡◌, inl, inr, ℕ, ◌+◌, ◌-◌, ◌<◌, ◌==◌, nat_lt, Bool, true, false, ◌&&◌, cond, List, [], ◌∷◌, ◌++◌, length, map, get_or, slice_get, Result, Ok, Err, refl, ap, ap₂, ◌∙◌, subst as transport, arith}
use Rattle.std.proofs.lemmas.Bool.Decides.{nat_tests}
use Rattle.theory.specs.Terms.{Term, Var, Sort, Pi, Lam, App, Let, Const, Fam, Con, Elim, AxiomK, free_of, top}
use Rattle.theory.specs.Telescopes.{functions, products}
use Rattle.theory.specs.Prelude.{prelude}
use Rattle.theory.specs.Signatures.{Signature, Definition, IsPrefix, equation}
use Rattle.theory.specs.SignatureScopes.{IsConstantNumber, IsScoped}
use Rattle.theory.proofs.ScopedTerms.{scoped_over_more, scoped-wider, telescope-wider}
use Rattle.core_terms.specs.Answers.{bounded, is_low}
use Rattle.core_terms.specs.declared.stop.Stop.{Stop}
use Rattle.core_terms.specs.declared.stop.Stop.TheVariants.{Deep}
use Rattle.core_sig.specs.DraftScopes.{HasDraftEntries, IsDraftNumber, IsDraftTerm}
use Rattle.core_sig.specs.Drafts.{Draft, drafted}
use Rattle.core_sig.specs.EntryTerms.{EachTerm}
use Rattle.core_sig.specs.ScopeTests.{has_constructor, is_constant, is_family}
use Rattle.core_sig.specs.ScopedDrafts.{IsScopedDraft}
use Rattle.core_sig.specs.Settling.{renumbered}
use Rattle.unification.specs.ScopedStates.{IsReady}
use Rattle.tree_translation.specs.Naming.{Naming, is_named, mentions, number_among, number_in, once, with_names}
use Rattle.tree_translation.specs.Plans.{Plan}
use Rattle.tree_translation.proofs.Drafting.{and_then-ok, in_order-is}
use Rattle.tree_translation.proofs.NewNames.{named-among, or-true, with-named}
use Rattle.entry_laws.proofs.OnlyConstants.{Each, HasOnly, each-weaker}
use Rattle.entry_laws.proofs.TableNames.{IsInTable, draft-names, named-later, place-low}
use Rattle.entry_laws.proofs.GrowingDrafts.{among-each}
use Rattle.entry_laws.proofs.entry_scopes.DraftSignatures.{name-number, numbers-there, ready-there, scoped-draft, with_count}
use Rattle.entry_laws.proofs.entry_scopes.WholeCycles.{prelude-there}
use Rattle.entry_laws.proofs.entry_scopes.WholeStandings.{scoped-functions, scoped-products}
use Rattle.entry_laws.proofs.entry_scopes.WholeTerms.{equation-scoped}
use Rattle.entry_laws.specs.draft_scopes.Laws.{IsNamedOver}
use Rattle.entry_laws.proofs.draft_scopes.RenumberedDrafts.{in_order-scoped}
use Rattle.drafts.specs.draft_checks.Checks.{enterable, has_draft_entries, is_draft_entry, is_draft_number, is_draft_term, names_enter}
use Rattle.drafts.specs.draft_entering.Conditions.{IsGeneratedName}
use Rattle.function_session.proofs.function_laws.report_laws.drafts_in_turn.RunNames.{IsFitting}
use Rattle.function_session.proofs.function_laws.report_laws.drafts_in_turn.EnteringInTurn.{generated-enters}
use Rattle.clause_reports.specs.Equations.{Equation, part_at}
use Rattle.clause_reports.specs.Laws.{IsOver}
use Rattle.clause_reports.specs.ProofTerms.{candidate, proof_name, proof_names, proof_term}
use Rattle.clause_reports.specs.ProofWalks.{Proof}
use Rattle.function_session.proofs.function_laws.report_laws.WalkedProofs.{IsProofOver, place_in}
use Rattle.function_session.proofs.function_laws.report_laws.ProofNames.{names-fit}
use Rattle.function_session.proofs.function_laws.report_laws.ProofScopes.{proof-scoped}

-- ---- scopes of drafts

-- the constants of a draft's term are entries or names
only-in-table : (S : Signature) (count : ℕ) (table : List (List ℕ)) → count ≡ length table → (t : Term) → HasDraftEntries S (length S.entries) count t
    → HasOnly (IsInTable (length S.entries) table) t
only-in-table S count table many (Pi a b) h = HasOnly.of_pi (only-in-table S count table many a h.0) (only-in-table S count table many b h.1)
only-in-table S count table many (Lam a b) h = HasOnly.of_lam (only-in-table S count table many a h.0) (only-in-table S count table many b h.1)
only-in-table S count table many (App f a) h = HasOnly.of_app (only-in-table S count table many f h.0) (only-in-table S count table many a h.1)
only-in-table S count table many (Let a t b) h =
    HasOnly.of_let (only-in-table S count table many a h.0) (only-in-table S count table many t h.1) (only-in-table S count table many b h.2)
only-in-table S count table many (Const c) (inl (below, there)) =
    HasOnly.of_const (let low : c < length S.entries + length table = omega (arith, below) in low)
only-in-table S count table many (Const c) (inr (from, to)) =
    HasOnly.of_const (let low : c < length S.entries + length table = omega (arith, to, many) in low)
only-in-table S count table many (Var n) h = HasOnly.of_var
only-in-table S count table many (Sort i) h = HasOnly.of_sort
only-in-table S count table many (Fam n) h = HasOnly.of_fam
only-in-table S count table many (Con n c) h = HasOnly.of_con
only-in-table S count table many (Elim n m) h = HasOnly.of_elim
only-in-table S count table many (AxiomK i m) h = HasOnly.of_axiom

-- the names are over the signature
names-over : (S : Signature) (count : ℕ) → IsNamedOver S (with_count S count) (length S.entries)
names-over S count = record {
  families = λ n is. (scoped-draft S count 0 (Fam n) (record { variables = omega arith; entries = is })).entries;
  constructors = λ n c is. (scoped-draft S count 0 (Con n c) (record { variables = omega arith; entries = is })).entries;
  constants = λ c low is. constant c low (scoped-draft S count 0 (Const c) (record { variables = omega arith; entries = is })).entries;
}
  where
    constant : (c : ℕ) → c < length S.entries → IsDraftNumber S (length S.entries) count c → IsConstantNumber S c
    constant c low (inl (lt, there)) = there
    constant c low (inr (from, to)) = absurd (omega (arith, low, from))

-- each name of the table has the number of a name
table-constants : (S : Signature) (others : List (List ℕ))
    → Each (λ name. IsConstantNumber (with_count S (length (with_names [] others))) (number_in (length S.entries) (with_names [] others) name)) others
table-constants S others =
    each-weaker others
    (λ name is.
    let low = place-low (with_names [] others) name (with-named [] others name ∙ or-true (is_named [] name) (is_named others name) is) in
    name-number S (length (with_names [] others)) (number_in (length S.entries) (with_names [] others) name) (omega arith) (omega (arith, low)))
    (named-later [] others)

-- ---- tests

module _ (S : Signature) where
  number-tested : (base count c : ℕ) → IsDraftNumber S base count c → is_draft_number S base count c ≡ true
  number-tested base count c (inl h) =
      let below : nat_lt c base ≡ true = grind (arith, nat_tests, h.0) in
      let there : is_constant (slice_get S.entries c) ≡ true = ap is_constant h.1.3 in
      ap₂ (λ (b x : Bool). cond b x (nat_lt (c - base) count)) below there
  number-tested base count c (inr h) =
      let from : nat_lt c base ≡ false = grind (arith, nat_tests, h.0) in
      let inside : nat_lt (c - base) count ≡ true = grind (arith, nat_tests, h.0, h.1) in
      ap₂ (λ (b x : Bool). cond b (is_constant (slice_get S.entries c)) x) from inside

  entries-tested : (base count : ℕ) (t : Term) → HasDraftEntries S base count t → has_draft_entries S base count t ≡ true
  entries-tested base count (Var n) h = refl
  entries-tested base count (Sort i) h = refl
  entries-tested base count (AxiomK i m) h = refl
  entries-tested base count (Pi a b) h = ap₂ (λ (x y : Bool). x && y) (entries-tested base count a h.0) (entries-tested base count b h.1)
  entries-tested base count (Lam a b) h = ap₂ (λ (x y : Bool). x && y) (entries-tested base count a h.0) (entries-tested base count b h.1)
  entries-tested base count (App a b) h = ap₂ (λ (x y : Bool). x && y) (entries-tested base count a h.0) (entries-tested base count b h.1)
  entries-tested base count (Let a t b) h =
      ap₂ (λ (x y : Bool). x && y) (entries-tested base count a h.0)
      (ap₂ (λ (x y : Bool). x && y) (entries-tested base count t h.1) (entries-tested base count b h.2))
  entries-tested base count (Const c) h = number-tested base count c h
  entries-tested base count (Fam n) h = ap is_family h.1
  entries-tested base count (Con n c) h =
      let below : nat_lt c (length h.0.constructors) ≡ true = grind (arith, nat_tests, h.2) in ap (has_constructor c) h.1 ∙ below
  entries-tested base count (Elim n m) h = ap is_family h.1

  term-tested : (base count : ℕ) (t : Term) → IsDraftTerm S base count 0 t → is_low t ≡ true → is_draft_term S base count t ≡ true
  term-tested base count t h low =
      let closed : (free_of t == 0) ≡ true = grind (arith, nat_tests, h.variables) in
      ap₂ (λ (x y : Bool). x && y) closed (ap₂ (λ (x y : Bool). x && y) low (entries-tested base count t h.entries))

bounded-low : (t u : Term) → bounded t ≡ Ok u → is_low t ≡ true
bounded-low t u e = by (is_low t) refl e
  where
    by : (b : Bool) → is_low t ≡ b → (let answer : Result Term Stop = cond b (Ok t) (Err Deep) in answer ≡ Ok u) → is_low t ≡ true
    by true is k = is
    by false is k = absurd (cc)

all-enter : (S : Signature) (names : List (List ℕ)) → Each (IsGeneratedName S) names → names_enter S names ≡ true
all-enter S [] Each.none = refl
all-enter S (name ∷ names) (Each.more h rest) = ap₂ (λ (x y : Bool). x && y) (generated-enters S name h) (all-enter S names rest)

-- a definition by low terms that are scoped passes the tests of its terms
defined-tested : (S : Signature) (d : Draft) (name : List ℕ) (type body : Term) → d.entry ≡ Definition name type body → is_low type ≡ true → is_low body ≡ true
    → IsScopedDraft S d → is_draft_entry S d.base (length d.names) d.entry ≡ true
defined-tested S d name type body is type_low body_low scoped =
    let both : EachTerm (IsDraftTerm S d.base (length d.names)) (Definition name type body) =
    transport (EachTerm (IsDraftTerm S d.base (length d.names))) is scoped in
    ap (is_draft_entry S d.base (length d.names)) is
    ∙ ap₂ (λ (x y : Bool). x && y) (term-tested S d.base (length d.names) type both.0 type_low) (term-tested S d.base (length d.names) body both.1 body_low)

-- the terms of a draft that is numbered are low
record IsLowDraft (d : Draft) : Type 0 where
  name : List ℕ
  type : Term
  body : Term
  entry : d.entry ≡ Definition name type body
  type_low : is_low type ≡ true
  body_low : is_low body ≡ true

drafted-low : (name : List ℕ) (base : ℕ) (names : List (List ℕ)) (t u : Term) (d : Draft) → drafted name base names t u ≡ Ok d → d.entry ≡ Definition name t u
    → IsLowDraft d
drafted-low name base names t u d e is =
    let first = and_then-ok (bounded t) _ d e in
    let second = and_then-ok (bounded u) _ d first.goes in
    record {
      name = name;
      type = t;
      body = u;
      entry = is;
      type_low = bounded-low t first.answer first.is;
      body_low = bounded-low u second.answer second.is;
    }

-- ---- the candidate

module _ (S : Signature) (ready : IsReady S) (first : IsPrefix (prelude S.has_k) S) (plan : Plan) (k clause : ℕ) (fits : IsFitting (part_at plan k).level)
    (e : Equation) (over : IsOver S e) (proof : Proof) (is : IsProofOver S e.context proof) (d : Draft) (made : candidate S plan k clause e proof ≡ Ok d) where
  pub candidate-enters : enterable S d ≡ true
  candidate-enters =
      let L = (part_at plan k).level in
      let low : L < top = omega (arith, fits) in
      let base = length S.entries in
      let names = proof_names S L proof in
      let table = with_names [] names in
      let count = length table in
      let number = number_in base table in
      let T = with_count S count in
      let n = length e.context in
      let wide = λ (t : Term) (h : IsScoped S n t). scoped-wider (numbers-there S count) h in
      let tele = telescope-wider (numbers-there S count) 0 e.context over.context in
      let goal = equation L e.type e.left e.right in
      let goal_scoped : IsScoped T n goal =
      equation-scoped T n L e.type e.left e.right (ready-there S count ready) low (wide e.type over.type) (wide e.left over.left) (wide e.right over.right) in
      let type_scoped : IsScoped T 0 (products e.context goal) = scoped-products T 0 e.context goal tele (scoped_over_more T n (0 + n) goal (omega arith) goal_scoped) in
      let term = proof_term S number L proof in
      let proved : IsScoped T (length (place_in proof).context) term =
      proof-scoped S count ready (prelude-there S count first) number L low proof is.made (table-constants S names) in
      let term_scoped : IsScoped T n term = transport (λ context. IsScoped T (length context) term) is.over proved in
      let body_scoped : IsScoped T 0 (functions e.context term) = scoped-functions T 0 e.context term tele (scoped_over_more T n (0 + n) term (omega arith) term_scoped) in
      let type : Naming → Term = λ number. products e.context (equation L e.type e.left e.right) in
      let body : Naming → Term = λ number. functions e.context (proof_term S number L proof) in
      let name = proof_name plan k clause in
      let scoped = in_order-scoped S T name base names type body d (names-over S count) made type_scoped body_scoped in
      let has =
      draft-names name base names type body d made
      (only-in-table S count table refl (products e.context goal) (scoped-draft S count 0 (products e.context goal) type_scoped).entries)
      (only-in-table S count table refl (functions e.context term) (scoped-draft S count 0 (functions e.context term) body_scoped).entries) in
      let generated = names-fit S ready L fits proof is.made in
      let places = once [] (mentions base (products e.context goal) ++ mentions base (functions e.context term)) in
      let lows = drafted-low name base (map (λ i. get_or table i []) places) (renumbered (number_among base places) (products e.context goal))
      (renumbered (number_among base places) (functions e.context term)) d made (in_order-is name base names type body d made).entry in
      ap₂ (λ (x y : Bool). x && y) (defined-tested S d lows.name lows.type lows.body lows.entry lows.type_low lows.body_low scoped.1)
      (all-enter S d.names (each-weaker d.names (λ name among. among-each (IsGeneratedName S) names name generated (named-among names name among)) has.among))
