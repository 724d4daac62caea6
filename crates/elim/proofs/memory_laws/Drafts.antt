-- Drafts that enter, with all that they need.
use Rattle.std.proofs.Common.{◌≡◌, ℕ, zero, suc, Bool, true, false, Option, Some, None, Result, Ok, Err, List, [], ◌∷◌, length, refl, sym, subst as transport}
use Rattle.theory.specs.Terms.{Term}
use Rattle.theory.specs.Families.{Family}
use Rattle.theory.specs.Signatures.{Entry, FamilyOf, EliminatorAt, AxiomKAt, Definition, Signature}
use Rattle.core_terms.specs.Answers.{Spent}
use Rattle.core_terms.specs.declared.stop.Stop.{Stop}
use Rattle.core_terms.specs.declared.stop.Stop.TheVariants.{Deep}
use Rattle.core_sig.specs.Drafts.{Draft, drafted}
use Rattle.core_sig.specs.Settling.{renumbered_entry, settled_number}
use Rattle.kernel_reduce.specs.Entries.{family_at}
use Rattle.family_check.specs.Outcomes.{FamilyStop, Outcome}
use Rattle.family_check.specs.Outcomes.FamilyStop.{Stopped, Denied, NotPositive, TooLarge, BadFamily, Duplicate}
use Rattle.clause_reports.specs.DraftEntering.{Entering, Mention, Eliminates, AssumesK, Names, enter_all, enter_axiom_k, enter_chain, enter_draft_of, enter_eliminator, enter_entry, enter_generated, enter_mention, enter_needed, enter_with, longest_chain, mentioned, with_entry}
use Rattle.clause_reports.specs.Generated.{Generated, Case, Below, Aux, Rec, All, ConfusionType, NoConfusion, Direct, Acyclic, Left, generated_by, generated_draft}
use Rattle.clause_reports.specs.Stops.{Reporting, entering, halting, not_entered, or_halts, or_rejected}
use Rattle.family_check.specs.Entering.{Entered}
use Rattle.elim.specs.memory_laws.Foreseen.{IsForeseen, IsForeseenEntry, IsForeseenInstance, IsForeseenReport}
use Rattle.elim.proofs.memory_laws.Runs.{Only, Ends, ok, no, now, done, next, and-then, either-ends, low}
use Rattle.elim.proofs.memory_laws.Families.{as-entry, axiom-k, define, instance}

-- ---- out of units and too high among the ends of a report

pub halted : {A : Type 0} {r : Result A Stop} → Only IsForeseen r → Only IsForeseenReport (or_halts r)
halted {A} {r} h = by r h
  where
    by : (x : Result A Stop) → Only IsForeseen x → Only IsForeseenReport (or_halts x)
    by (Ok a) k = ok
    by (Err e) k = no k.is

pub halts : {A : Type 0} {spent : Spent A} → Ends IsForeseen spent → Ends IsForeseenReport (halting spent)
halts h = now (halted h.only)

-- an answer that is refused for its height alone
pub only-deep : {A : Type 0} (r : Result A Stop) → ((e : Stop) → r ≡ Err e → e ≡ Deep) → Only IsForeseen r
only-deep (Ok a) h = ok
only-deep (Err e) h = no (transport IsForeseen (sym (h e refl)) tt)

-- ---- drafts

pub drafted-low : (name : List ℕ) (base : ℕ) (names : List (List ℕ)) (type term : Term) → Only IsForeseen (drafted name base names type term)
drafted-low name base names type term = and-then (low type) (λ t. and-then (low term) (λ u. ok))

generated : (base : ℕ) (g : Generated) → Only IsForeseen (generated_draft base g)
generated base (Case n f m) = search drafted-low
generated base (Below n f m) = search drafted-low
generated base (Aux n f m) = search drafted-low
generated base (Rec n f m) = search drafted-low
generated base (All n f m) = search drafted-low
generated base (ConfusionType n f number m) = search drafted-low
generated base (NoConfusion n f number m) = search drafted-low
generated base (Direct n f) = search drafted-low
generated base (Acyclic n f) = search drafted-low
generated base (Left i m) = search drafted-low

-- ---- entries

denied : (S : Signature) (e : Entry) (cause : FamilyStop) → IsForeseenEntry cause → IsForeseenReport (not_entered S e cause)
denied S e (Stopped stop) h = h
denied S e (Denied site d) h = tt
denied S e (NotPositive n k) h = tt
denied S e (TooLarge n k) h = tt
denied S e BadFamily h = tt
denied S e Duplicate h = tt

rejected : {A : Type 0} (S : Signature) (e : Entry) (r : Result A FamilyStop) → Only IsForeseenEntry r → Only IsForeseenReport (or_rejected S e r)
rejected S e (Ok a) h = ok
rejected S e (Err cause) h = no (denied S e cause h.is)

enters : {A : Type 0} (S : Signature) (e : Entry) {outcome : Outcome A} → Ends IsForeseenEntry outcome → Ends IsForeseenReport (entering S e outcome)
enters S e h = now (rejected S e _ h.only)

as-entered : {A : Type 0} (r : Result A FamilyStop) → Only IsForeseenInstance r → Only IsForeseenEntry r
as-entered (Ok a) h = ok
as-entered (Err e) h = no (as-entry e h.is)

instance-enters : {A : Type 0} (S : Signature) (e : Entry) {outcome : Outcome A} → Ends IsForeseenInstance outcome
    → Ends IsForeseenReport (entering S e outcome)
instance-enters S e h = now (rejected S e _ (as-entered _ h.only))

-- ---- mentioned entries

abbrev Enters : Entering → Type 0
Enters enter = (S : Signature) (d : Draft) (left : ℕ) → Ends IsForeseenReport (enter S d left)

signature-of : {outcome : Reporting Entered} → Ends IsForeseenReport outcome → Ends IsForeseenReport (with_entry outcome)
signature-of h = next h (λ e rest. done)

eliminator : (S : Signature) (n m : ℕ) (f : Option Family) (left : ℕ) → Ends IsForeseenReport (enter_eliminator S n m f left)
eliminator S n m None left = done
eliminator S n m (Some f) left = signature-of (instance-enters S (EliminatorAt n m) (instance S n f m left))

with-k : (S : Signature) (i m : ℕ) (on : Bool) (left : ℕ) → Ends IsForeseenReport (enter_axiom_k S i m on left)
with-k S i m true left = signature-of (instance-enters S (AxiomKAt i m) (axiom-k S i m left))
with-k S i m false left = now (no tt)

generated-enters : {enter : Entering} → Enters enter → (S : Signature) (g : Option Generated) (left : ℕ) → Ends IsForeseenReport (enter_generated enter S g left)
generated-enters h S None left = done
generated-enters h S (Some g) left = next (now {left = left} (halted (generated (length S.entries) g))) (λ d rest. signature-of (h S d rest))

mention : {enter : Entering} → Enters enter → (S : Signature) (m : Mention) (left : ℕ) → Ends IsForeseenReport (enter_mention enter S m left)
mention h S (Eliminates n m) left = eliminator S n m (family_at S n) left
mention h S (AssumesK i m) left = with-k S i m S.has_k left
mention h S (Names name) left = either-ends _ done (generated-enters h S (generated_by S name) left)

pub all : {enter : Entering} → Enters enter → (S : Signature) (mentions : List Mention) (left : ℕ) → Ends IsForeseenReport (enter_all enter S mentions left)
all h S [] left = done
all h S (m ∷ mentions) left = next (mention h S m left) (λ T rest. all h T mentions rest)

pub entry : (S : Signature) (e : Entry) (left : ℕ) → Ends IsForeseenReport (enter_entry S e left)
entry S (Definition name type body) left = enters S (Definition name type body) (define S name type body left)
entry S (FamilyOf f) left = now (no tt)
entry S (EliminatorAt n m) left = now (no tt)
entry S (AxiomKAt i m) left = now (no tt)

with-needed : {enter : Entering} → Enters enter → Enters (enter_with enter)
with-needed h S d left =
    next (all h S (mentioned d) left) (λ T rest. entry T (renumbered_entry (settled_number T d.base d.names) d.entry) rest)

chain : (count : ℕ) → Enters (enter_chain count)
chain zero S d left = with-needed (λ T other rest. now (no tt)) S d left
chain (suc count) S d left = with-needed (chain count) S d left

pub needed : Enters enter_needed
needed S d left = chain longest_chain S d left

pub draft-enters : Enters enter_draft_of
draft-enters S d left = with-needed needed S d left

-- the name of a generated entry, which enters with all that it needs
pub name-enters : (S : Signature) (m : Mention) (left : ℕ) → Ends IsForeseenReport (enter_mention enter_needed S m left)
name-enters S m left = mention needed S m left
