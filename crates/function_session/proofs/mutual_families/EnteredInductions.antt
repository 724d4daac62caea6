-- The inductions of members once their drafts have entered.
use Rattle.std.proofs.Common.{◌≡◌, ℕ, zero, suc, ◌<◌, Bool, true, false, cond, Option, Some, None, List, [], ◌∷◌, length, map, get_or, Result, Ok, Err, IfOk, refl, sym, ap, ◌∙◌, subst as transport, arith}
use Rattle.std.specs.List.{All}
use Rattle.std.specs.Option.{option_map_or}
use Rattle.std.specs.Prelude.{option_and_then}
use Rattle.std.proofs.lemmas.List.Elements.{All-cons, All-head, All-nil, All-tail}
use Rattle.theory.specs.Signatures.{AxiomKAt, Definition, EliminatorAt, Entry, FamilyOf, IsEntryAt, IsPrefix, Signature}
use Rattle.theory.specs.SignatureScopes.{IsConstantNumber}
use Rattle.theory.specs.Terms.{Term}
use Rattle.theory.specs.WellFormed.{IsWellFormed, pushed}
use Rattle.theory.proofs.Lists.{slice_get-last}
use Rattle.theory.proofs.Pushing.{prefix_transitive}
use Rattle.theory.proofs.Widening.{prefix_keeps}
use Rattle.core_terms.proofs.Answers.{Answers, and_next-has}
use Rattle.core_sig.specs.Drafts.{Draft}
use Rattle.core_sig.specs.Names.{find}
use Rattle.core_sig.specs.Settling.{entry_found, renumbered, renumbered_entry, settled_number}
use Rattle.core_text.proofs.NamesFound.{definition-found}
use Rattle.clause_reports.specs.DraftEntering.{enter_all, enter_draft_of, enter_entry, enter_needed, mentioned}
use Rattle.clause_reports.specs.elaboration.Refusals as function
use Rattle.clause_reports.specs.elaboration.Refusals.{owner_of, reporting}
use Rattle.clause_reports.proofs.Keeping.{Grows, GrowsTo, enter_all-grows, enter_entry-grows, enter_needed-grows, grows_on, grows_same, rejected-has, weaker, weaker-of-two}
use Rattle.clause_reports.proofs.elaboration.Keeping.{no_report-has}
use Rattle.drafts.specs.draft_checks.Checks.{unmarked}
use Rattle.drafts.specs.draft_entering.Conditions.{IsDefinition}
use Rattle.elab_session.specs.declared.refusal.Refusal.{Refusal}
use Rattle.family_check.specs.Entering.{Entered, define_of, entered}
use Rattle.function_session.specs.function_lines.Opened.{checked_entered, deep, draft_in}
use Rattle.function_session.specs.mutual_families.Entering.{EntersDraft, drafts_entered}
use Rattle.function_session.specs.mutual_families.Laws.{HasEntered}
use Rattle.function_session.specs.mutual_families.Refusals.{or_refused, refused_with}
use Rattle.function_session.specs.Refusals.{refused_function}
use Rattle.function_session.proofs.OwnEntry.{define-enters}
use Rattle.function_session.proofs.mutual_families.PackedEntries.{AreMade, IsMade, none, one}
use Rattle.mutual_pack.specs.Equations.{entry_named, inductions_in}
use Rattle.mutual_pack.specs.Inductions.{induction_name, name_of}

-- ---- a draft

-- T has the entries of S, others, and then that of the draft
pub record IsBrought (S : Signature) (d : Draft) (T : Signature) : Type 0 where
  pub before : Signature
  pub longer : Grows S before
  pub is : T ≡ pushed before (renumbered_entry (settled_number before d.base d.names) d.entry)
  pub grows : Grows before T

entry-enters : (U : Signature) (e : Entry) (left : ℕ) → Answers (λ x. x ≡ entered U e) (enter_entry U e left)
entry-enters U (Definition name type body) left =
    rejected-has (λ (x : Entered). x ≡ entered U (Definition name type body)) U (Definition name type body) (define_of U name type body left).0 (define-enters U name type body left)
entry-enters U (FamilyOf f) left = tt
entry-enters U (EliminatorAt n m) left = tt
entry-enters U (AxiomKAt i m) left = tt

draft-brings : (S : Signature) (d : Draft) (left : ℕ) → Answers (λ x. IsBrought S d x.signature) (enter_draft_of S d left)
draft-brings S d left =
    let P : Entered → Type 0 = λ x. IsBrought S d x.signature in
    and_next-has (Grows S) P (enter_all enter_needed S (mentioned d) left) _ (enter_all-grows enter_needed enter_needed-grows S (mentioned d) left) (λ U rest g.
    let e = renumbered_entry (settled_number U d.base d.names) d.entry in
    weaker-of-two (λ (x : Entered). x ≡ entered U e) (GrowsTo U) P (enter_entry U e rest).0 (entry-enters U e rest) (enter_entry-grows U e rest)
    (λ x is grows. record { before = U; longer = g; is = ap (λ (y : Entered). y.signature) is; grows = grows }))

checked-brings : (S : Signature) (name : List ℕ) (d : Draft) (left : ℕ) → Answers (IsBrought S d) (checked_entered S name d left)
checked-brings S name d left =
    let P : Entered → Type 0 = λ x. IsBrought S d x.signature in
    and_next-has P (IsBrought S d) (reporting S (owner_of name 0) (enter_draft_of S d left)) _
    (no_report-has P S (owner_of name 0) (enter_draft_of S d left).0 (draft-brings S d left)) (λ x rest h. h)

-- however it enters
abbrev pub Brings : EntersDraft → Type 0
Brings enter = (S : Signature) (name : List ℕ) (d : Draft) (left : ℕ) → Answers (IsBrought S d) (enter S name d left)

pub meant-brings : Brings checked_entered
meant-brings S name d left = checked-brings S name d left

pub session-brings : Brings draft_in
session-brings S name d left = by (unmarked S)
  where
    by : (b : Bool) → Answers (IsBrought S d) (cond b (checked_entered S name d left) (deep left))
    by true = checked-brings S name d left
    by false = tt

pub brought-grows : (S T : Signature) (d : Draft) → IsBrought S d T → Grows S T
brought-grows S T d h = grows_on S h.before T h.longer h.grows

-- ---- all of them

refused-has : {A E : Type 0} (P : A → Type 0) (refusal : E → Refusal) (r : Result A E) → IfOk r P → IfOk (or_refused refusal r) P
refused-has P refusal (Ok a) h = h
refused-has P refusal (Err e) h = tt

-- T has the entries of S and of the drafts
pub record AreBrought (S : Signature) (drafts : List Draft) (T : Signature) : Type 0 where
  pub grows : Grows S T
  pub entered : All (HasEntered T) drafts

has-entered : (S T V : Signature) (d : Draft) → IsBrought S d T → IsPrefix T V → HasEntered V d
has-entered S T V d h longer =
    let e = renumbered_entry (settled_number h.before d.base d.names) d.entry in
    record {
      before = h.before;
      longer = prefix_transitive h.before T V h.grows.prefix longer;
      there =
          (prefix_keeps longer).entry (length h.before.entries) e
          (transport (λ (U : Signature). IsEntryAt U (length h.before.entries) e) (sym h.is) (slice_get-last h.before.entries e));
    }

pub drafts-brought : (enter : EntersDraft) → Brings enter → (S : Signature) (fuel : ℕ) (name : List ℕ) (drafts : List Draft) (left : ℕ)
    → Answers (AreBrought S drafts) (drafts_entered enter S fuel name drafts left)
drafts-brought enter brings S fuel name [] left = record { grows = grows_same S; entered = All-nil (HasEntered S) }
drafts-brought enter brings S fuel name (d ∷ drafts) left =
    and_next-has (IsBrought S d) (AreBrought S (d ∷ drafts)) (refused_with (refused_function fuel) (enter S name d left)) _
    (refused-has (IsBrought S d) (refused_function fuel) (enter S name d left).0 (brings S name d left)) (λ T rest h.
    weaker (AreBrought T drafts) (AreBrought S (d ∷ drafts)) (drafts_entered enter T fuel name drafts rest).0
    (λ V more. record {
      grows = grows_on S T V (brought-grows S T d h) more.grows;
      entered = All-cons (HasEntered V) d drafts (has-entered S T V d h more.grows.prefix) more.entered;
    })
    (drafts-brought enter brings T fuel name drafts rest))

-- ---- the constants of the inductions

number-of : (T : Signature) (name : List ℕ) (n : ℕ) (type body : Term) → IsWellFormed T → IsEntryAt T n (Definition name type body) → IsConstantNumber T (entry_named T name)
number-of T name n type body well at =
    transport (IsConstantNumber T)
    (sym (ap (λ found. option_map_or (λ n. n) (option_and_then entry_found found) 0) (definition-found T well.distinct n (Definition name type body) name at refl)))
    (name, type, body, at)

one-there : (T : Signature) (own name : List ℕ) (d : Draft) → IsMade own name d → HasEntered T d → IsWellFormed T → IsConstantNumber T (entry_named T own)
one-there T own name d made h well =
    let r = settled_number h.before d.base d.names in
    number-of T own (length h.before.entries) (renumbered r made.type) (renumbered r made.term) well
    (transport (λ e. IsEntryAt T (length h.before.entries) (renumbered_entry r e)) made.entry h.there)

pub inductions-there : (T : Signature) (name : List ℕ) (members : List Entry) (drafts : List Draft) → AreMade name members drafts → All (HasEntered T) drafts → IsWellFormed T
    → (k : ℕ) → k < length members → IsConstantNumber T (get_or (inductions_in T members) k 0)
inductions-there T name members drafts none all well k lt = absurd (omega arith)
inductions-there T name members drafts (one m others d rest made more) all well zero lt =
    one-there T (induction_name (name_of m)) name d made (All-head (HasEntered T) d rest all) well
inductions-there T name members drafts (one m others d rest made more) all well (suc k) lt =
    inductions-there T name others rest more (All-tail (HasEntered T) d rest all) well k (omega arith)
