-- A property that new definitions and instances keep is kept when a draft enters with all that it needs.
use Rattle.std.proofs.Common.{◌≡◌, ℕ, zero, suc, Bool, true, false, cond, List, [], ◌∷◌, length, Option, Some, None, Result, Ok, Err, IfOk, refl, sym, ap, subst, ◌∙◌}
use Rattle.theory.specs.Terms.{Term}
use Rattle.theory.specs.Families.{Family}
use Rattle.theory.specs.Signatures.{Entry, FamilyOf, EliminatorAt, AxiomKAt, Definition, Signature}
use Rattle.core_terms.specs.Answers.{SpentOr, and_next}
use Rattle.core_terms.specs.declared.stop.Stop.{Stop}
use Rattle.core_terms.specs.declared.stop.Stop.TheVariants.{Deep}
use Rattle.core_terms.proofs.Answers.{Answers, and_next-has}
use Rattle.core_sig.specs.Drafts.{Draft}
use Rattle.core_sig.specs.Names.{find}
use Rattle.core_sig.specs.Settling.{renumbered_entry, settled_number}
use Rattle.family_check.specs.Entering.{Entered, instance_of, axiom_k_of, define_of}
use Rattle.family_check.specs.Outcomes.{FamilyStop}
use Rattle.kernel_reduce.specs.Entries.{family_at}
use Rattle.tree_translation.specs.Naming.{motive_name, step_name, helper_name, part_named}
use Rattle.tree_translation.specs.Needed.{is_found}
use Rattle.clause_reports.specs.DraftEntering.{Mention, Eliminates, AssumesK, Names, Entering, mentioned, with_entry, enter_eliminator, enter_axiom_k, enter_generated, enter_mention, enter_all, enter_entry, enter_with, enter_chain, longest_chain, enter_needed, enter_draft_of}
use Rattle.clause_reports.specs.Generated.{Generated, name_of, generated_by, generated_draft}
use Rattle.clause_reports.specs.Stops.{Halts, Reporting, answers, or_halts, or_rejected, entering}
use Rattle.drafts.specs.draft_entering.Depths.{entry_own_name}
use Rattle.drafts.specs.draft_entering.Tables.{IsListed, names_by, IsMadeOf}
use Rattle.drafts.proofs.draft_entering.TableLookups.{found-listed, generated-made}
use Rattle.proof_walks.specs.proof_terms.CodeProofs.{name_made}

-- ---- answers

abbrev pub Any : {A : Type 0} → A → Type 0
Any a = Unit {0}

pub any : {A E : Type 0} (r : Result A E) → IfOk r Any
any (Ok a) = tt
any (Err e) = tt

-- whatever was answered first
pub skip : {A B E : Type 0} (Q : B → Type 0) (first : SpentOr E A) (go : A → ℕ → SpentOr E B) → ((a : A) (rest : ℕ) → Answers Q (go a rest)) → Answers Q (and_next first go)
skip Q first go k = and_next-has Any Q first go (any first.0) (λ a rest u. k a rest)

pub if-ok : {A E : Type 0} (P Q : A → Type 0) (r : Result A E) → ((a : A) → P a → Q a) → IfOk r P → IfOk r Q
if-ok P Q (Ok a) f h = f a h
if-ok P Q (Err e) f h = tt

pub halts-has : {A : Type 0} (P : A → Type 0) (r : Result A Stop) → IfOk r P → IfOk (or_halts r) P
halts-has P (Ok a) h = h
halts-has P (Err e) h = tt

-- ---- properties that are kept

-- the name of a definition
abbrev pub EntryIs : (List ℕ → Type 0) → Entry → Type 0
EntryIs D (Definition name type body) = D name
EntryIs D _ = Unit {0}

abbrev pub DraftIs : (List ℕ → Type 0) → Draft → Type 0
DraftIs D d = EntryIs D d.entry

abbrev pub After : (Signature → Type 0) → Entered → Type 0
After P e = P e.signature

-- P is kept by definitions whose names have D, and by instances; what is generated has such names, and what a function with an
-- own name makes has them as well, where the numbers of its parts have Few.
pub record Keeps (D Own : List ℕ → Type 0) (Few : ℕ → Type 0) (P : Signature → Type 0) : Type 0 where
  pub define : (S : Signature) (name : List ℕ) (type body : Term) (left : ℕ) → P S → D name → Answers (After P) (define_of S name type body left)
  pub eliminator : (S : Signature) (n : ℕ) (f : Family) (m left : ℕ) → P S → Answers (After P) (instance_of S n f m left)
  pub axiom_k : (S : Signature) (i m left : ℕ) → P S → Answers (After P) (axiom_k_of S i m left)
  pub generated : (S : Signature) (g : Generated) → P S → IsListed S g → D (name_of g)
  pub own : (x : List ℕ) → Own x → D x
  pub motive : (x : List ℕ) → Own x → D (motive_name x)
  pub step : (x : List ℕ) → Own x → D (step_name x)
  pub helper : (x : List ℕ) (k : ℕ) → Own x → Few k → D (helper_name x k)
  pub proof : (x : List ℕ) (k clause : ℕ) → Own x → Few k → D (name_made (part_named x k) clause)

abbrev pub Carries : (List ℕ → Type 0) → (Signature → Type 0) → Entering → Type 0
Carries D P enter = (S : Signature) (d : Draft) (left : ℕ) → P S → DraftIs D d → Answers (After P) (enter S d left)

made-is : (D : List ℕ → Type 0) (e : Entry) (name : List ℕ) (names : List (List ℕ)) (d : Draft) → d.entry ≡ e → IsMadeOf name names d → D name → EntryIs D e
made-is D (Definition own type body) name names d is made h = let e : own ≡ name = sym (ap entry_own_name is) ∙ made.own in subst D (sym e) h
made-is D (FamilyOf f) name names d is made h = tt
made-is D (EliminatorAt n m) name names d is made h = tt
made-is D (AxiomKAt i m) name names d is made h = tt

-- ---- entering

module _ (D Own : List ℕ → Type 0) (Few : ℕ → Type 0) (P : Signature → Type 0) (keeps : Keeps D Own Few P) where
  rejected-is : (S : Signature) (e : Entry) (r : Result Entered FamilyStop) → IfOk r (After P) → IfOk (or_rejected S e r) (After P)
  rejected-is S e (Ok a) h = h
  rejected-is S e (Err cause) h = tt

  enter_entry-is : (S : Signature) → P S → (e : Entry) → EntryIs D e → (left : ℕ) → Answers (After P) (enter_entry S e left)
  enter_entry-is S p (Definition name type body) h left = rejected-is S (Definition name type body) (define_of S name type body left).0 (keeps.define S name type body left p h)
  enter_entry-is S p (FamilyOf f) h left = tt
  enter_entry-is S p (EliminatorAt n m) h left = tt
  enter_entry-is S p (AxiomKAt i m) h left = tt

  generated-draft-is : (S : Signature) → P S → (name : List ℕ) (g : Generated) → generated_by S name ≡ Some g → (base : ℕ) → IfOk (generated_draft base g) (DraftIs D)
  generated-draft-is S p name g is base =
      if-ok (IsMadeOf (name_of g) (names_by g)) (DraftIs D) (generated_draft base g)
      (λ d made. made-is D d.entry (name_of g) (names_by g) d refl made (keeps.generated S g p (found-listed S name g is).listed)) (generated-made base g)

  with_entry-is : (outcome : Reporting Entered) → Answers (After P) outcome → Answers P (with_entry outcome)
  with_entry-is outcome h = and_next-has (After P) P outcome _ h (λ e rest k. k)

  enter_generated-is : (enter : Entering) → Carries D P enter → (S : Signature) → P S → (g : Option Generated)
      → ((h : Generated) → g ≡ Some h → IfOk (generated_draft (length S.entries) h) (DraftIs D)) → (left : ℕ) → Answers P (enter_generated enter S g left)
  enter_generated-is enter all S p None made left = p
  enter_generated-is enter all S p (Some g) made left =
      and_next-has (DraftIs D) P (or_halts (generated_draft (length S.entries) g), left) _
      (halts-has (DraftIs D) (generated_draft (length S.entries) g) (made g refl))
      (λ d rest k. with_entry-is (enter S d rest) (all S d rest p k))

  enter_eliminator-is : (S : Signature) → P S → (n m : ℕ) (f : Option Family) (left : ℕ) → Answers P (enter_eliminator S n m f left)
  enter_eliminator-is S p n m None left = p
  enter_eliminator-is S p n m (Some f) left =
      with_entry-is (entering S (EliminatorAt n m) (instance_of S n f m left))
      (rejected-is S (EliminatorAt n m) (instance_of S n f m left).0 (keeps.eliminator S n f m left p))

  enter_axiom_k-is : (S : Signature) → P S → (i m : ℕ) (on : Bool) (left : ℕ) → Answers P (enter_axiom_k S i m on left)
  enter_axiom_k-is S p i m true left =
      with_entry-is (entering S (AxiomKAt i m) (axiom_k_of S i m left))
      (rejected-is S (AxiomKAt i m) (axiom_k_of S i m left).0 (keeps.axiom_k S i m left p))
  enter_axiom_k-is S p i m false left = tt

  pub enter_mention-is : (enter : Entering) → Carries D P enter → (S : Signature) → P S → (m : Mention) (left : ℕ) → Answers P (enter_mention enter S m left)
  enter_mention-is enter all S p (Eliminates n m) left = enter_eliminator-is S p n m (family_at S n) left
  enter_mention-is enter all S p (AssumesK i m) left = enter_axiom_k-is S p i m S.has_k left
  enter_mention-is enter all S p (Names name) left = by (is_found (find S name))
    where
      by : (there : Bool) → Answers P (cond there (answers (Ok S) left) (enter_generated enter S (generated_by S name) left))
      by true = p
      by false = enter_generated-is enter all S p (generated_by S name) (λ h is. generated-draft-is S p name h is (length S.entries)) left

  pub enter_all-is : (enter : Entering) → Carries D P enter → (S : Signature) → P S → (mentions : List Mention) (left : ℕ) → Answers P (enter_all enter S mentions left)
  enter_all-is enter all S p [] left = p
  enter_all-is enter all S p (m ∷ mentions) left =
      and_next-has P P (enter_mention enter S m left) _ (enter_mention-is enter all S p m left) (λ T rest h. enter_all-is enter all T h mentions rest)

  -- numbers change no name
  pub renumbered-is : (r : ℕ → ℕ) (e : Entry) (S : Signature) (left : ℕ) → P S → EntryIs D e → Answers (After P) (enter_entry S (renumbered_entry r e) left)
  renumbered-is r (Definition name type body) S left p h = enter_entry-is S p (renumbered_entry r (Definition name type body)) h left
  renumbered-is r (FamilyOf f) S left p h = tt
  renumbered-is r (EliminatorAt n m) S left p h = tt
  renumbered-is r (AxiomKAt i m) S left p h = tt

  enter_with-is : (enter : Entering) → Carries D P enter → Carries D P (enter_with enter)
  enter_with-is enter all S d left p h =
      and_next-has P (After P) (enter_all enter S (mentioned d) left) _ (enter_all-is enter all S p (mentioned d) left)
      (λ T rest k. renumbered-is (settled_number T d.base d.names) d.entry T rest k h)

  enter_chain-is : (chain : ℕ) → Carries D P (enter_chain chain)
  enter_chain-is zero S d left p h = enter_with-is (λ T other rest. answers (Err (Halts Deep)) rest) (λ T other rest k l. tt) S d left p h
  enter_chain-is (suc chain) S d left p h = enter_with-is (enter_chain chain) (enter_chain-is chain) S d left p h

  pub enter_needed-is : Carries D P enter_needed
  enter_needed-is S d left p h = enter_chain-is longest_chain S d left p h

  pub enter_draft-is : Carries D P enter_draft_of
  enter_draft-is S d left p h = enter_with-is enter_needed enter_needed-is S d left p h
