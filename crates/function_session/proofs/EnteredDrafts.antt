-- A draft that enters in a session enters as is meant, and brings its entry with the numbers that its names have by then.
use Rattle.std.proofs.Common.{◌≡◌, ℕ, List, Result, Ok, Err, IfOk, refl, sym, ap, ◌∙◌, subst as transport, Bool, true, false, cond}
use Rattle.theory.specs.Signatures.{Signature, Definition}
use Rattle.theory.specs.Terms.{Term}
use Rattle.theory.specs.WellFormed.{IsDefinition, IsWellFormed, pushed}
use Rattle.core_terms.proofs.Answers.{Answers, and_next-has}
use Rattle.core_sig.specs.Drafts.{Draft}
use Rattle.core_sig.specs.Settling.{renumbered, renumbered_entry, settled_number}
use Rattle.drafts.specs.draft_checks.Checks.{unmarked}
use Rattle.family_check.specs.Entering.{Entered, define_of, entered}
use Rattle.family_check.specs.Scopes.{HasPrelude}
use Rattle.clause_reports.specs.DraftEntering.{enter_all, enter_draft_of, enter_entry, enter_needed, mentioned}
use Rattle.clause_reports.specs.elaboration.Refusals as function
use Rattle.clause_reports.specs.elaboration.Refusals.{owner_of, reporting}
use Rattle.clause_reports.proofs.Keeping.{Grows, GrowsTo, enter_all-grows, enter_entry-grows, enter_needed-grows, grows_on, prelude-on, rejected-has, weaker-of-two}
use Rattle.clause_reports.proofs.elaboration.Keeping.{no_report-has}
use Rattle.elab_session.proofs.Resolved.{last-entry}
use Rattle.elab_session.proofs.WrittenDefinitions.{definition-of}
use Rattle.function_session.specs.decisions.Entering as decisions
use Rattle.function_session.specs.decisions.Entering.{or_refused}
use Rattle.function_session.specs.function_lines.Opened.{checked_entered, deep}
use Rattle.function_session.proofs.OwnEntry.{define-enters}

-- T has the entries of S, others, and then that of the draft, a definition with the name and the type
pub record IsEntered (S : Signature) (name : List ℕ) (type : Term) (d : Draft) (T : Signature) : Type 0 where
  pub before : Signature
  pub body : Term
  pub longer : Grows S before
  pub settled : renumbered_entry (settled_number before d.base d.names) d.entry ≡ Definition name type body
  pub enters : Grows before (pushed before (Definition name type body))
  pub is : T ≡ pushed before (Definition name type body)

-- ---- as is meant

entry-enters : (S U : Signature) (name : List ℕ) (type body : Term) (d : Draft) (left : ℕ) → Grows S U
    → renumbered_entry (settled_number U d.base d.names) d.entry ≡ Definition name type body
    → Answers (λ e. IsEntered S name type d e.signature) (enter_entry U (Definition name type body) left)
entry-enters S U name type body d left longer settled =
    let e = Definition name type body in
    weaker-of-two (λ (a : Entered). a ≡ entered U e) (GrowsTo U) (λ (a : Entered). IsEntered S name type d a.signature) (enter_entry U e left).0
    (rejected-has (λ (a : Entered). a ≡ entered U e) U e (define_of U name type body left).0 (define-enters U name type body left))
    (enter_entry-grows U e left)
    (λ a is grows. record {
      before = U;
      body = body;
      longer = longer;
      settled = settled;
      enters = transport (λ (y : Entered). Grows U y.signature) is grows;
      is = ap (λ (y : Entered). y.signature) is;
    })

-- a draft of a definition, where its type stays the same when constants are numbered anew
draft-enters : (S : Signature) (name : List ℕ) (type term : Term) (d : Draft) (left : ℕ) → d.entry ≡ Definition name type term
    → ((r : ℕ → ℕ) → renumbered r type ≡ type) → Answers (λ e. IsEntered S name type d e.signature) (enter_draft_of S d left)
draft-enters S name type term d left at kept =
    let P : Entered → Type 0 = λ e. IsEntered S name type d e.signature in
    and_next-has (Grows S) P (enter_all enter_needed S (mentioned d) left) _ (enter_all-grows enter_needed enter_needed-grows S (mentioned d) left) (λ U rest g.
    let r = settled_number U d.base d.names in
    let settled : (renumbered_entry r d.entry ≡ Definition name type (renumbered r term)) =
    ap (renumbered_entry r) at ∙ ap (λ t. Definition name t (renumbered r term)) (kept r) in
    transport (λ entry. Answers P (enter_entry U entry rest)) (sym settled) (entry-enters S U name type (renumbered r term) d rest g settled))

pub checked-enters : (S : Signature) (owner name : List ℕ) (type term : Term) (d : Draft) (left : ℕ) → d.entry ≡ Definition name type term
    → ((r : ℕ → ℕ) → renumbered r type ≡ type) → Answers (IsEntered S name type d) (checked_entered S owner d left)
checked-enters S owner name type term d left at kept =
    let P : Entered → Type 0 = λ e. IsEntered S name type d e.signature in
    and_next-has P (IsEntered S name type d) (reporting S (owner_of owner 0) (enter_draft_of S d left)) _
    (no_report-has P S (owner_of owner 0) (enter_draft_of S d left).0 (draft-enters S name type term d left at kept))
    (λ e rest h. h)

-- ---- in a session

or_refused-has : (P : Signature → Type 0) (fuel : ℕ) (r : Result Signature function.Refusal) → IfOk r P → IfOk (or_refused fuel r) P
or_refused-has P fuel (Ok T) h = h
or_refused-has P fuel (Err e) h = tt

is-answer : {A E : Type 0} (r : Result A E) → IfOk r (λ a. r ≡ Ok a)
is-answer (Ok a) = refl
is-answer (Err e) = tt

pub session-enters : (S : Signature) (fuel : ℕ) (owner : List ℕ) (d : Draft)
    → IfOk (decisions.draft_entered S fuel owner d) (λ T. (checked_entered S owner d fuel).0 ≡ Ok T)
session-enters S fuel owner d = by (unmarked S)
  where
    by : (b : Bool) → IfOk (or_refused fuel (cond b (checked_entered S owner d fuel) (deep fuel)).0) (λ T. (checked_entered S owner d fuel).0 ≡ Ok T)
    by true =
        or_refused-has (λ T. (checked_entered S owner d fuel).0 ≡ Ok T) fuel (checked_entered S owner d fuel).0
        (is-answer (checked_entered S owner d fuel).0)
    by false = tt

-- ---- the signature with the entry

pub entered-grows : (S : Signature) (name : List ℕ) (type : Term) (d : Draft) (T : Signature) → IsEntered S name type d T → Grows S T
entered-grows S name type d T h =
    let last = pushed h.before (Definition name type h.body) in
    transport (Grows S) (sym h.is) (grows_on S h.before last h.longer h.enters)

pub entered-typed : (S : Signature) (name : List ℕ) (type : Term) (d : Draft) (T : Signature) (h : IsEntered S name type d T)
    → IsWellFormed S → HasPrelude S → IsDefinition h.before type h.body
entered-typed S name type d T h well prelude =
    definition-of
    (last-entry h.before (Definition name type h.body)
    (h.enters.keeps (h.longer.keeps well prelude) (prelude-on S h.before h.longer.prefix prelude)))
