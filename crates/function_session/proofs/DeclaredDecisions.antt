-- An accepted decision, taken apart: its names, the tests that were passed, its draft, and the signature with its entry.
use Rattle.std.proofs.Common.{◌≡◌, ℕ, ◌+◌, ◌&&◌, ◌==◌, true, nat_le, Option, Some, None, List, [], length, map, Result, Ok, Err, IfOk, refl, ap, subst as transport}
use Rattle.std.proofs.lemmas.Bool.{and_parts}
use Rattle.theory.specs.Families.{Family}
use Rattle.theory.specs.Signatures.{Signature, FamilyOf, IsEntryAt}
use Rattle.theory.specs.Terms.{top}
use Rattle.core_terms.specs.Answers.{and_then}
use Rattle.core_terms.specs.declared.stop.Stop.{Stop}
use Rattle.core_terms.proofs.Answers.{and_then-is}
use Rattle.core_sig.specs.Drafts.{Draft}
use Rattle.core_sig.specs.FamilyShapes.{family_shape}
use Rattle.core_sig.specs.Settling.{renumbered}
use Rattle.kernel_reduce.specs.Entries.{family_at}
use Rattle.kernel_reduce.proofs.LookUps.{family-found}
use Rattle.decide_eq.specs.Comparisons.{confusions_of}
use Rattle.decide_eq.specs.DecisionEntries.{decided_family, decision_entry, decision_term, names_for}
use Rattle.decide_eq.specs.PlainFamilies.{Known, all_universes, plain_family}
use Rattle.decide_eq.specs.Statements.{decision_type}
use Rattle.decide_eq.specs.declared.stop.DecideStop.{DecideStop}
use Rattle.decide_eq.proofs.PlainShapes.{at-family, passed, plain-shape}
use Rattle.elab_session.specs.Declaring.{accepted_as, or_unresolved}
use Rattle.elab_session.specs.declared.refusal.Refusal.{Refusal}
use Rattle.resolve.specs.Families.{declared}
use Rattle.resolve.specs.declared.stop.ResolveStop.{ResolveStop}
use Rattle.resolve.proofs.NewNames.{declared-new}
use Rattle.tree_translation.proofs.Drafting.{IsDrafted, drafted-is}
use Rattle.surface_syntax.specs.declared.tree.Word.{Word}
use Rattle.clause_reports.proofs.Keeping.{weaker}
use Rattle.function_session.specs.Elaborating.{Elaborated, with_lines}
use Rattle.function_session.specs.decisions.Declaring.{accepted_under, declare_decision}
use Rattle.function_session.specs.decisions.Entering.{Entering, decision_entered, draft_entered, draft_of_family, on_draft}
use Rattle.function_session.specs.decisions.Known.{known_into}
use Rattle.function_session.specs.decisions.Laws.{type_of_decision}
use Rattle.function_session.specs.decisions.Naming.{named, number_named}
use Rattle.function_session.specs.decisions.Refusals.{or_undecided}
use Rattle.function_session.specs.function_lines.Opened.{checked_entered}
use Rattle.function_session.specs.declared.decisions.decision.Decision.{Decision}
use Rattle.function_session.specs.declared.decisions.naming.Named.{Named}
use Rattle.function_session.proofs.EnteredDrafts.{IsEntered, checked-enters, session-enters}
use Rattle.function_session.proofs.DecisionTypes.{type-kept, type-same}

-- ---- answers of the parts

resolved-has : (P : Elaborated → Type 0) (r : Result Named ResolveStop) (go : Named → Result Elaborated Refusal)
    → ((d : Named) → r ≡ Ok d → IfOk (go d) P) → IfOk (and_then (or_unresolved r) go) P
resolved-has P (Ok d) go h = h d refl
resolved-has P (Err e) go h = tt

decided-has : (P : Elaborated → Type 0) (S : Signature) (n : ℕ) (family into : Word) (r : Result (Unit {0}) DecideStop) (end : Result Elaborated Refusal)
    → (r ≡ Ok tt → IfOk end P) → IfOk (and_then (or_undecided S n family into r) (λ u. end)) P
decided-has P S n family into (Ok tt) end h = h refl
decided-has P S n family into (Err e) end h = tt

accepted-has : (P : Elaborated → Type 0) (name : List ℕ) (r : Result Signature Refusal) → IfOk r (λ T. P (with_lines (accepted_as name T) []))
    → IfOk (accepted_under name r) P
accepted-has P name (Ok T) h = h
accepted-has P name (Err e) h = tt

on_draft-has : (P : Signature → Type 0) (enter : Entering) (S : Signature) (fuel : ℕ) (name : List ℕ) (r : Result Draft Stop)
    → ((d : Draft) → r ≡ Ok d → IfOk (enter S fuel name d) P) → IfOk (on_draft enter S fuel name r) P
on_draft-has P enter S fuel name (Ok d) h = h d refl
on_draft-has P enter S fuel name (Err e) h = tt

family-has : (P : Signature → Type 0) (enter : Entering) (S : Signature) (fuel : ℕ) (d : Named) (known : Known)
    → ((f : Family) (draft : Draft) → IsEntryAt S d.family (FamilyOf f)
    → decision_entry (length S.entries) d.name d.family f d.into known ≡ Ok draft → IfOk (enter S fuel d.name draft) P)
    → IfOk (decision_entered enter S fuel d known) P
family-has P enter S fuel d known h = by (family_at S d.family) refl
  where
    by : (o : Option Family) → family_at S d.family ≡ o → IfOk (on_draft enter S fuel d.name (draft_of_family S d known o)) P
    by (Some f) at =
        on_draft-has P enter S fuel d.name (decision_entry (length S.entries) d.name d.family f d.into known) (λ draft is.
        h f draft (family-found S d.family f at) is)
    by None at = tt

-- ---- names

named-new : (S : Signature) (x family into : Word) → IfOk (named S x family into) (λ d. d.name ≡ x.text)
named-new S x family into =
    let P : Named → Type 0 = λ d. d.name ≡ x.text in
    and_then-is P (declared S [] x) _ (λ name new.
    and_then-is P (number_named S family) _ (λ n there.
    and_then-is P (number_named S into) _ (λ m known. (declared-new S x name new).is)))

-- ---- the draft

-- the draft of a decision
pub decision-drafted : (base : ℕ) (name : List ℕ) (n : ℕ) (f : Family) (into : ℕ) (known : Known) (d : Draft) → decision_entry base name n f into known ≡ Ok d
    → IsDrafted name base (names_for f.name (map (λ c. c.name) f.constructors) (family_shape n f)) (type_of_decision n f into)
    (decision_term (decided_family base n (family_shape n f) into) (confusions_of (decided_family base n (family_shape n f) into)) known (family_shape n f)) d
decision-drafted base name n f into known d h =
    let g = family_shape n f in
    let family = decided_family base n g into in
    let names = names_for f.name (map (λ c. c.name) f.constructors) g in
    let term = decision_term family (confusions_of family) known g in
    transport (λ type. IsDrafted name base names type term d) (type-same base 0 n g into g.parameters)
    (drafted-is name base names (decision_type family g.parameters) term d h)

-- the parameters of a family whose equality can be decided are universes
plain-universes : (S : Signature) (n into : ℕ) (known : Known) (f : Family) → family_at S n ≡ Some f → plain_family S n into known ≡ Ok tt
    → all_universes f.level (family_shape n f).parameters ≡ true
plain-universes S n into known f at plain =
    let g = family_shape n f in
    let rest = nat_le (g.level + 2) top && all_universes g.level g.parameters in
    let second = (and_parts (length g.indices == 0) rest (passed S into known g (plain-shape S n into known f at plain)).plain).1 in
    (and_parts (nat_le (g.level + 2) top) (all_universes g.level g.parameters) second).1

-- ---- decisions

-- a decision is accepted, and T is the signature with its entries: its draft enters as is meant
pub record IsDecided (S : Signature) (decisions : List Decision) (fuel : ℕ) (x family into : Word) (given : Named) (T : Signature) : Type 0 where
  pub resolved : named S x family into ≡ Ok given
  pub name : given.name ≡ x.text
  pub decided : Family
  pub there : IsEntryAt S given.family (FamilyOf decided)
  pub plain : plain_family S given.family given.into (known_into given.into decisions) ≡ Ok tt
  pub draft : Draft
  pub drafted : decision_entry (length S.entries) x.text given.family decided given.into (known_into given.into decisions) ≡ Ok draft
  pub made : (checked_entered S given.name draft fuel).0 ≡ Ok T

-- a property of an accepted decision
pub decision-has : (P : Elaborated → Type 0) (S : Signature) (decisions : List Decision) (fuel : ℕ) (x family into : Word)
    → ((given : Named) (T : Signature) → IsDecided S decisions fuel x family into given T → P (with_lines (accepted_as given.name T) []))
    → IfOk (declare_decision draft_entered S decisions fuel x family into) P
decision-has P S decisions fuel x family into h =
    resolved-has P (named S x family into) _ (λ given resolved.
    let known = known_into given.into decisions in
    let name : given.name ≡ x.text = transport (λ r. IfOk r (λ d. d.name ≡ x.text)) resolved (named-new S x family into) in
    decided-has P S given.family family into (plain_family S given.family given.into known) _ (λ plain.
    accepted-has P given.name (decision_entered draft_entered S fuel given known)
    (family-has (λ T. P (with_lines (accepted_as given.name T) [])) draft_entered S fuel given known (λ f draft there drafted.
    weaker (λ T. (checked_entered S given.name draft fuel).0 ≡ Ok T) (λ T. P (with_lines (accepted_as given.name T) []))
    (draft_entered S fuel given.name draft)
    (λ T made. h given T (record {
      resolved = resolved;
      name = name;
      decided = f;
      there = there;
      plain = plain;
      draft = draft;
      drafted = transport (λ own. decision_entry (length S.entries) own given.family f given.into known ≡ Ok draft) name drafted;
      made = made;
    }))
    (session-enters S fuel given.name draft)))))

-- its entry is the last one, and is that of the draft with the numbers that its names have by then
pub decided-entered : (S : Signature) (decisions : List Decision) (fuel : ℕ) (x family into : Word) (given : Named) (T : Signature)
    (d : IsDecided S decisions fuel x family into given T) → IsEntered S x.text (type_of_decision given.family d.decided given.into) d.draft T
decided-entered S decisions fuel x family into given T d =
    let known = known_into given.into decisions in
    let type = type_of_decision given.family d.decided given.into in
    let is = decision-drafted (length S.entries) x.text given.family d.decided given.into known d.draft d.drafted in
    let at : family_at S given.family ≡ Some d.decided = at-family S given.family d.decided d.there in
    let kept : ((r : ℕ → ℕ) → renumbered r type ≡ type) =
    λ r. type-kept r d.decided.level (decided_family 0 given.family (family_shape given.family d.decided) given.into)
    (family_shape given.family d.decided).parameters (plain-universes S given.family given.into known d.decided at d.plain) in
    transport (λ r. IfOk r (IsEntered S x.text type d.draft)) d.made
    (checked-enters S given.name x.text type _ d.draft fuel is.entry kept)

-- ---- the same decision by other ways in

resolved-same : (r : Result Named ResolveStop) (go on : Named → Result Elaborated Refusal) → ((d : Named) → r ≡ Ok d → go d ≡ on d)
    → and_then (or_unresolved r) go ≡ and_then (or_unresolved r) on
resolved-same (Ok d) go on h = h d refl
resolved-same (Err e) go on h = refl

decided-same : (S : Signature) (n : ℕ) (family into : Word) (r : Result (Unit {0}) DecideStop) (end other : Result Elaborated Refusal)
    → (r ≡ Ok tt → end ≡ other) → and_then (or_undecided S n family into r) (λ u. end) ≡ and_then (or_undecided S n family into r) (λ u. other)
decided-same S n family into (Ok tt) end other h = h refl
decided-same S n family into (Err e) end other h = refl

on_draft-same : (enter other : Entering) (S : Signature) (fuel : ℕ) (name : List ℕ) (r : Result Draft Stop)
    → ((d : Draft) → r ≡ Ok d → enter S fuel name d ≡ other S fuel name d) → on_draft enter S fuel name r ≡ on_draft other S fuel name r
on_draft-same enter other S fuel name (Ok d) h = h d refl
on_draft-same enter other S fuel name (Err e) h = refl

family-same : (enter other : Entering) (S : Signature) (fuel : ℕ) (d : Named) (known : Known)
    → ((f : Family) (draft : Draft) → IsEntryAt S d.family (FamilyOf f)
    → decision_entry (length S.entries) d.name d.family f d.into known ≡ Ok draft → enter S fuel d.name draft ≡ other S fuel d.name draft)
    → decision_entered enter S fuel d known ≡ decision_entered other S fuel d known
family-same enter other S fuel d known h = by (family_at S d.family) refl
  where
    by : (o : Option Family) → family_at S d.family ≡ o
        → on_draft enter S fuel d.name (draft_of_family S d known o) ≡ on_draft other S fuel d.name (draft_of_family S d known o)
    by (Some f) at =
        on_draft-same enter other S fuel d.name (decision_entry (length S.entries) d.name d.family f d.into known) (λ draft is.
        h f draft (family-found S d.family f at) is)
    by None at = refl

-- where the draft enters in both ways alike
pub decision-same : (enter other : Entering) (S : Signature) (decisions : List Decision) (fuel : ℕ) (x family into : Word)
    → ((given : Named) (f : Family) (draft : Draft) → IsEntryAt S given.family (FamilyOf f)
    → plain_family S given.family given.into (known_into given.into decisions) ≡ Ok tt
    → decision_entry (length S.entries) given.name given.family f given.into (known_into given.into decisions) ≡ Ok draft
    → enter S fuel given.name draft ≡ other S fuel given.name draft)
    → declare_decision enter S decisions fuel x family into ≡ declare_decision other S decisions fuel x family into
decision-same enter other S decisions fuel x family into h =
    resolved-same (named S x family into) _ _ (λ given resolved.
    let known = known_into given.into decisions in
    decided-same S given.family family into (plain_family S given.family given.into known) _ _ (λ plain.
    ap (accepted_under given.name) (family-same enter other S fuel given known (λ f draft at is. h given f draft at plain is))))
