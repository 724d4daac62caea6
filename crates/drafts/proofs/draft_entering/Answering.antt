-- How the calls of entering meet their conditions, and answer.
use Rattle.std.proofs.Common.{◌≡◌, inl, inr, ℕ, ◌-◌, ◌<◌, ◌≤◌, true, false, cond, Option, Some, List, [], ◌∷◌, length, get_or, Result, Ok, Err, IfOk, refl, sym, ap, ◌∙◌, subst as transport}
use Rattle.std.specs.List.{All}
use Rattle.std.specs.Option.{is_some}
use Rattle.std.proofs.lemmas.Bool.{le-ltb, true≢false}
use Rattle.theory.specs.Terms.{Const}
use Rattle.theory.specs.Signatures.{Signature}
use Rattle.core_terms.specs.Answers.{and_next}
use Rattle.core_terms.specs.declared.stop.Stop.{Stop}
use Rattle.core_sig.specs.Drafts.{Draft}
use Rattle.core_sig.specs.Names.{find}
use Rattle.clause_reports.specs.DraftEntering.{Entering, Names, mentions_in, with_entry, enter_all, enter_generated, enter_mention}
use Rattle.clause_reports.specs.Generated.{Generated, generated_draft}
use Rattle.clause_reports.specs.Stops.{ReportStop, Halts, or_halts}
use Rattle.drafts.specs.draft_entering.Conditions.{IsDefined, IsEnterable, IsGeneratedName, IsOpen}
use Rattle.drafts.proofs.draft_entering.Entered.{all-one}

pub always : {A E : Type 0} (r : Result A E) (P : Type 0) → P → IfOk r (λ x. P)
always (Ok a) P h = h
always (Err e) P h = tt

pub weaker : {A E : Type 0} (r : Result A E) (P Q : Type 0) → (P → Q) → IfOk r (λ x. P) → IfOk r (λ x. Q)
weaker (Ok a) P Q f h = f h
weaker (Err e) P Q f h = tt

-- ---- constants

pub name-enterable : (S : Signature) (names : List (List ℕ)) (k : ℕ) (name : List ℕ) → All (IsEnterable S) names → k < length names
    → ((d : List ℕ) → name ≡ get_or names k d) → IsEnterable S name
name-enterable S names k name all lt is = transport (IsEnterable S) (sym (is [])) (all k [] lt)

pub constant-met : (enter : Entering) (S : Signature) (base : ℕ) (names : List (List ℕ)) (c : ℕ) (name : List ℕ) (left : ℕ) → base ≤ c
    → name ≡ get_or names (c - base) []
    → enter_mention enter S (Names name) left ≡ enter_all enter S (mentions_in base names (Const c)) left
constant-met enter S base names c name left le is =
    ap (λ x. enter_mention enter S (Names x) left) is ∙ sym (all-one enter S (Names (get_or names (c - base) [])) left)
    ∙ ap (λ b. enter_all enter S (cond b [] (Names (get_or names (c - base) []) ∷ [])) left) (sym (le-ltb c base le))

-- ---- names

pub known-defined : (S : Signature) (name : List ℕ) → IsOpen S → IsEnterable S name → is_some (find S name) ≡ true → IsDefined S name
known-defined S name is (inl there) known = there
known-defined S name is (inr made) known = elim (is.tabled name made) [
  | inl none ↦ absurd (true≢false (sym known ∙ ap is_some none))
  | inr there ↦ there
]

pub unknown-generated : (S : Signature) (name : List ℕ) → IsEnterable S name → is_some (find S name) ≡ false → IsGeneratedName S name
unknown-generated S name (inl there) unknown = absurd (true≢false (sym (ap is_some there.1) ∙ unknown))
unknown-generated S name (inr made) unknown = made

-- ---- generated entries

pub made-refused : (enter : Entering) (S : Signature) (o : Option Generated) (g : Generated) (left : ℕ) (e : Stop) → o ≡ Some g
    → Err e ≡ generated_draft (length S.entries) g → (Err (Halts e), left) ≡ enter_generated enter S o left
made-refused enter S o g left e at is =
    transport (λ (r : Result Draft Stop). (Err (Halts e), left) ≡ and_next (or_halts r, left) (λ d rest. with_entry (enter S d rest))) is refl
    ∙ ap (λ x. enter_generated enter S x left) (sym at)

pub made-entered : (enter : Entering) (S : Signature) (o : Option Generated) (g : Generated) (left : ℕ) (d : Draft) → o ≡ Some g
    → Ok d ≡ generated_draft (length S.entries) g → with_entry (enter S d left) ≡ enter_generated enter S o left
made-entered enter S o g left d at is =
    transport (λ (r : Result Draft Stop). with_entry (enter S d left) ≡ and_next (or_halts r, left) (λ x rest. with_entry (enter S x rest))) is refl
    ∙ ap (λ x. enter_generated enter S x left) (sym at)

pub deeper-refused : (enter : Entering) (S : Signature) (o : Option Generated) (g : Generated) (left mid : ℕ) (d : Draft) (e : ReportStop) → o ≡ Some g
    → Ok d ≡ generated_draft (length S.entries) g → (Err e, mid) ≡ enter S d left → (Err e, mid) ≡ enter_generated enter S o left
deeper-refused enter S o g left mid d e at is refused =
    ap with_entry refused ∙ made-entered enter S o g left d at is
