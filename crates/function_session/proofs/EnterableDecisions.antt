-- The draft of a decision may enter the signature of a session: its terms are scoped and low, and its names are those of entries that are
-- generated for the family.
use Rattle.std.proofs.Common.{◌≡◌, inr, ℕ, suc, ◌+◌, ◌==◌, ◌<◌, ◌≤◌, nat_lt, max, Bool, true, false, cond, Option, Some, None, List, [], ◌∷◌, length, map, get_or, codes, Result, Ok, Err, IfOk, refl, sym, subst as transport, arith}
use Rattle.std.specs.List.{All}
use Rattle.std.proofs.lemmas.Bool.Decides.{nat_tests}
use Rattle.std.proofs.lemmas.List.{length-map}
use Rattle.std.proofs.lemmas.List.Elements.{All-cons, All-head, All-nil, All-tail}
use Rattle.std.proofs.lemmas.Option.{slice_get_within}
use Rattle.theory.specs.Families.{Constructor, Family}
use Rattle.theory.specs.Signatures.{Signature, Definition, FamilyOf, IsEntryAt}
use Rattle.theory.specs.Terms.{Term, height, top}
use Rattle.theory.proofs.Pushing.{prefix_reflexive}
use Rattle.core_terms.specs.Answers.{bounded}
use Rattle.core_terms.specs.declared.stop.Stop.{Stop}
use Rattle.core_terms.specs.declared.stop.Stop.TheVariants.{Deep}
use Rattle.core_terms.proofs.Answers.{and_then-has, bounded-has}
use Rattle.core_sig.specs.Drafts.{Draft, drafted, generated_name}
use Rattle.core_sig.specs.EntryTerms.{EachTerm}
use Rattle.core_sig.specs.FamilyShapes.{family_shape}
use Rattle.core_sig.specs.ScopedDrafts.{IsScopedDraft}
use Rattle.kernel_reduce.specs.Entries.{family_at}
use Rattle.kernel_reduce.proofs.LookUps.{family-found}
use Rattle.clause_reports.specs.Generated.{Case, NoConfusion}
use Rattle.decide_eq.specs.Comparisons.{confusions_of}
use Rattle.decide_eq.specs.DecisionEntries.{confusion_name, decided_family, decision_entry, decision_term, has_confusions, names_for}
use Rattle.decide_eq.specs.PlainFamilies.{IsDecided, Known, plain_family}
use Rattle.decide_eq.specs.Statements.{decision_type}
use Rattle.decide_eq.proofs.PlainShapes.{at-family, plain-level}
use Rattle.decide_eq.proofs.ScopedDecisions.{decision-scoped}
use Rattle.drafts.specs.draft_entering.Conditions.{IsDefinition, IsEnterable, IsEnterableDraft}
use Rattle.drafts.proofs.draft_entering.TableLookups.{listed-named}
use Rattle.elab_session.specs.Sessions.{IsReady}
use Rattle.function_session.specs.decisions.Entering.{MayEnter, draft_of_family}
use Rattle.function_session.specs.decisions.Known.{known_into}
use Rattle.function_session.specs.decisions.Laws.{IsHeld, type_of_decision}
use Rattle.function_session.specs.declared.decisions.decision.Decision.{Decision}
use Rattle.function_session.specs.declared.decisions.naming.Named.{Named}
use Rattle.function_session.proofs.DeclaredDecisions.{decision-drafted}

-- ---- decisions that are known

held-decided : (S : Signature) (d : Decision) → IsHeld S d → IsDecided S (d.family, d.entry)
held-decided S d h =
    let type = type_of_decision d.family h.decided d.into in
    (slice_get_within S.entries d.entry (Definition h.name type h.body) h.entry, (h.name, type, h.body, h.entry))

pub known-decided : (S : Signature) (into : ℕ) (decisions : List Decision) → All (IsHeld S) decisions → All (IsDecided S) (known_into into decisions)
known-decided S into [] h = All-nil (IsDecided S)
known-decided S into (d ∷ decisions) h = by (d.into == into) (known-decided S into decisions (All-tail (IsHeld S) d decisions h))
  where
    by : (b : Bool) → All (IsDecided S) (known_into into decisions)
        → All (IsDecided S) (cond b ((d.family, d.entry) ∷ known_into into decisions) (known_into into decisions))
    by true rest =
        All-cons (IsDecided S) (d.family, d.entry) (known_into into decisions) (held-decided S d (All-head (IsHeld S) d decisions h)) rest
    by false rest = rest

-- ---- names

case-enters : (S : Signature) (n : ℕ) (f : Family) → IsEntryAt S n (FamilyOf f) → f.level + 2 ≤ top
    → IsEnterable S (generated_name f.name (codes "!case.") f.level)
case-enters S n f at low = inr (listed-named S (Case n f f.level) (at, omega (arith, low)) made)
  where
    made : nat_lt f.level top ≡ true
    made = grind (arith, nat_tests, low)

confusion-enters : (S : Signature) (n : ℕ) (f : Family) (number : ℕ) → IsEntryAt S n (FamilyOf f) → f.level + 2 ≤ top → number < length f.constructors
    → IsEnterable S (confusion_name f.name (get_or (map (λ (c : Constructor). c.name) f.constructors) number []))
confusion-enters S n f number at low within = inr (listed-named S (NoConfusion n f number 0) (at, (omega arith, within)) made)
  where
    made : nat_lt (max f.level 1 + 1) top ≡ true
    made = grind (arith, nat_tests, low)

confusions-enter : (P : List ℕ → Type 0) (family : List ℕ) (names : List (List ℕ))
    → ((k : ℕ) → k < length names → P (confusion_name family (get_or names k []))) → All P (map (confusion_name family) names)
confusions-enter P family [] each = All-nil P
confusions-enter P family (name ∷ names) each =
    All-cons P (confusion_name family name) (map (confusion_name family) names) (each 0 (omega arith))
    (confusions-enter P family names (λ k lt. each (suc k) (omega arith)))

names-enter : (S : Signature) (n : ℕ) (f : Family) → IsEntryAt S n (FamilyOf f) → f.level + 2 ≤ top
    → All (IsEnterable S) (names_for f.name (map (λ c. c.name) f.constructors) (family_shape n f))
names-enter S n f at low = by (nat_lt 0 (length (family_shape n f).constructors)) (has_confusions (family_shape n f).constructors)
  where
    confusions : All (IsEnterable S) (map (confusion_name f.name) (map (λ (c : Constructor). c.name) f.constructors))
    confusions =
        confusions-enter (IsEnterable S) f.name (map (λ (c : Constructor). c.name) f.constructors) (λ k lt.
        confusion-enters S n f k at low (let e = length-map f.constructors (λ (c : Constructor). c.name) in omega (arith, lt, e)))

    by : (some confused : Bool)
        → All (IsEnterable S)
        (cond some
        (generated_name f.name (codes "!case.") f.level
        ∷ cond confused (map (confusion_name f.name) (map (λ (c : Constructor). c.name) f.constructors)) []) [])
    by true true = All-cons (IsEnterable S) (generated_name f.name (codes "!case.") f.level) _ (case-enters S n f at low) confusions
    by true false = All-cons (IsEnterable S) (generated_name f.name (codes "!case.") f.level) [] (case-enters S n f at low) (All-nil (IsEnterable S))
    by false confused = All-nil (IsEnterable S)

-- ---- drafts

drafted-heights : (name : List ℕ) (base : ℕ) (names : List (List ℕ)) (type term : Term)
    → IfOk (drafted name base names type term) (λ d. EachTerm (λ n t. height t ≤ 2000) d.entry)
drafted-heights name base names type term =
    let Low : Term → Type 0 = λ t. height t ≤ 2000 in
    let AreLow : Draft → Type 0 = λ d. EachTerm (λ n t. height t ≤ 2000) d.entry in
    and_then-has Low AreLow (bounded type) _ (bounded-has Low type (λ h. h)) (λ t h.
    and_then-has Low AreLow (bounded term) _ (bounded-has Low term (λ k. k)) (λ u k. (h, k)))

decision-heights : (base : ℕ) (name : List ℕ) (n : ℕ) (f : Family) (into : ℕ) (known : Known)
    → IfOk (decision_entry base name n f into known) (λ d. EachTerm (λ n t. height t ≤ 2000) d.entry)
decision-heights base name n f into known =
    let g = family_shape n f in
    let d = decided_family base n g into in
    drafted-heights name base (names_for f.name (map (λ c. c.name) f.constructors) g) (decision_type d g.parameters)
    (decision_term d (confusions_of d) known g)

pub decision-enterable : (S : Signature) (decisions : List Decision) (name : List ℕ) (n : ℕ) (f : Family) (into : ℕ) (d : Draft) → IsReady S
    → All (IsHeld S) decisions → IsEntryAt S n (FamilyOf f) → plain_family S n into (known_into into decisions) ≡ Ok tt
    → decision_entry (length S.entries) name n f into (known_into into decisions) ≡ Ok d → IsEnterableDraft S d
decision-enterable S decisions name n f into d ready held at plain is_drafted =
    let known = known_into into decisions in
    let base = length S.entries in
    let is = decision-drafted base name n f into known d is_drafted in
    record {
      definition = transport IsDefinition (sym is.entry) tt;
      scoped =
          transport (λ r. IfOk r (IsScopedDraft S)) is_drafted
          (decision-scoped S S name n f into known ready.settled.scoped ready.prelude at plain (known-decided S into decisions held) (prefix_reflexive S));
      low = transport (λ r. IfOk r (λ (y : Draft). EachTerm (λ n t. height t ≤ 2000) y.entry)) is_drafted (decision-heights base name n f into known);
      names =
          transport (All (IsEnterable S)) (sym is.same_names)
          (names-enter S n f at (plain-level S n into known f (at-family S n f at) plain));
    }

-- ---- the entry of a decision

no-draft : (d : Draft) → ◌≡◌ {A = Result Draft Stop} (Err Deep) (Ok d) → ⊥
no-draft d h = cc

entry-enters : (S : Signature) (decisions : List Decision) (d : Named) → IsReady S → All (IsHeld S) decisions
    → plain_family S d.family d.into (known_into d.into decisions) ≡ Ok tt → MayEnter S d (known_into d.into decisions)
entry-enters S decisions d ready held plain draft is = by (family_at S d.family) refl is
  where
    by : (o : Option Family) → family_at S d.family ≡ o → draft_of_family S d (known_into d.into decisions) o ≡ Ok draft → IsEnterableDraft S draft
    by (Some f) at made = decision-enterable S decisions d.name d.family f d.into draft ready held (family-found S d.family f at) plain made
    by None at made = absurd (no-draft draft made)

pub decision-enters : (S : Signature) (decisions : List Decision) (d : Named) (known : Known) → known ≡ known_into d.into decisions → IsReady S
    → All (IsHeld S) decisions → plain_family S d.family d.into known ≡ Ok tt → MayEnter S d known
decision-enters S decisions d known same ready held =
    transport (λ k. plain_family S d.family d.into k ≡ Ok tt → MayEnter S d k) (sym same) (entry-enters S decisions d ready held)
