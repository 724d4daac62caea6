-- An entry that is generated for a name is a definition of it; and the entries that recursion needs are generated under their names.
use Rattle.std.proofs.Common.{◌≡◌, ◌⊎◌, inl, inr, ℕ, ◌+◌, ◌<◌, ◌≤◌, ◌&&◌, nat_le, nat_lt, Bool, true, false, cond, Option, Some, None, List, length, Result, Ok, Err, IfOk, refl, sym, ap₂, ◌∙◌, subst as transport, arith}
use Rattle.std.proofs.lemmas.Bool.{and_from}
use Rattle.std.proofs.lemmas.Bool.Decides.{nat_tests}
use Rattle.theory.specs.Terms.{top}
use Rattle.theory.specs.Families.{Family}
use Rattle.theory.specs.Signatures.{Entry, IsEntryAt, Signature}
use Rattle.theory.specs.Signatures.Entry.{AxiomKAt, Definition, EliminatorAt, FamilyOf}
use Rattle.core_terms.specs.Answers.{and_next}
use Rattle.core_terms.specs.declared.stop.Stop.{Stop}
use Rattle.core_terms.proofs.Answers.{Answers, and_next-has}
use Rattle.core_sig.specs.Drafts.{Draft}
use Rattle.core_sig.specs.Names.{find}
use Rattle.core_sig.specs.Settling.{renumbered_entry, settled_number}
use Rattle.core_sig.specs.declared.entry.Found.{Found}
use Rattle.family_check.specs.Entering.{Entered}
use Rattle.tree_translation.specs.Laws.{name_in, name_of}
use Rattle.tree_translation.specs.Naming.{below_name, rec_name}
use Rattle.tree_translation.specs.Needed.{is_found}
use Rattle.clause_reports.specs.DraftEntering.{Entering, Names, enter_all, enter_chain, enter_entry, enter_generated, enter_mention, enter_needed, enter_with, mentioned, with_entry}
use Rattle.clause_reports.specs.Generated as made
use Rattle.clause_reports.specs.Generated.{all_name, generated_by, generated_draft}
use Rattle.clause_reports.specs.Stops as stops
use Rattle.clause_reports.proofs.Keeping.{any}
use Rattle.drafts.specs.draft_entering.Conditions as entering
use Rattle.drafts.specs.draft_entering.Conditions.{IsGeneratedName, IsOpen}
use Rattle.drafts.specs.draft_entering.Depths.{entry_own_name, own_name}
use Rattle.drafts.specs.draft_entering.Tables.{IsMadeOf, names_by}
use Rattle.drafts.proofs.draft_entering.TableLookups.{found-listed, generated-made, listed-named}
use Rattle.function_session.proofs.plan_laws.EnteredDraft.{entry-defines, renumbered-name}
use Rattle.clause_reports.specs.elaboration.Refusals.{answers, or_halts}

with-defined : (enter : Entering) (S : Signature) (d : Draft) (left : ℕ) → Answers (λ e. entering.IsDefined e.signature (name_of d)) (enter_with enter S d left)
with-defined enter S d left =
    let P : Entered → Type 0 = λ e. entering.IsDefined e.signature (name_of d) in
    and_next-has (λ T. Unit {0}) P (enter_all enter S (mentioned d) left) _ (any (enter_all enter S (mentioned d) left).0)
    (λ T rest u.
    transport (λ name. Answers (λ e. entering.IsDefined e.signature name) (enter_entry T (renumbered_entry (settled_number T d.base d.names) d.entry) rest))
    (renumbered-name (settled_number T d.base d.names) d.entry)
    (entry-defines T (renumbered_entry (settled_number T d.base d.names) d.entry) rest))

own-is : (d : Draft) → own_name d ≡ name_of d
own-is d = by d.entry
  where
    by : (e : Entry) → entry_own_name e ≡ name_in e
    by (Definition name type body) = refl
    by (FamilyOf f) = refl
    by (EliminatorAt n m) = refl
    by (AxiomKAt i m) = refl

some-found : (S : Signature) (name : List ℕ) → is_found (find S name) ≡ true → (find S name ≡ None) ⊎ entering.IsDefined S name → entering.IsDefined S name
some-found S name is (inr d) = d
some-found S name is (inl none) = absurd (absent (find S name) is none)
  where
    absent : (o : Option Found) → is_found o ≡ true → o ≡ None → ⊥
    absent None is none = absurd (cc)
    absent (Some f) is none = absurd (cc)

-- the entry that is generated for a name is a definition of it
pub mention-defines : (S : Signature) (name : List ℕ) (left : ℕ) → IsOpen S → IsGeneratedName S name
    → Answers (λ T. entering.IsDefined T name) (enter_mention enter_needed S (Names name) left)
mention-defines S name left is_open (g, is) = by (is_found (find S name)) refl
  where
    enters : (r : Result Draft Stop) → IfOk r (IsMadeOf (made.name_of g) (names_by g))
        → Answers (λ T. entering.IsDefined T name) (and_next (stops.answers (stops.or_halts r) left) (λ d rest. with_entry (enter_needed S d rest)))
    enters (Ok d) h =
        let same : name_of d ≡ name = sym (own-is d) ∙ (h.own ∙ (found-listed S name g is).named) in
        and_next-has (λ e. entering.IsDefined e.signature name) (λ T. entering.IsDefined T name) (enter_needed S d left) _
        (transport (λ n. Answers (λ e. entering.IsDefined e.signature n) (enter_needed S d left)) same (with-defined (enter_chain 2) S d left))
        (λ e rest k. k)
    enters (Err e) h = tt

    generated : Answers (λ T. entering.IsDefined T name) (enter_generated enter_needed S (generated_by S name) left)
    generated =
        transport (λ o. Answers (λ T. entering.IsDefined T name) (enter_generated enter_needed S o left)) (sym is)
        (enters (generated_draft (length S.entries) g) (generated-made (length S.entries) g))

    by : (b : Bool) → is_found (find S name) ≡ b
        → Answers (λ T. entering.IsDefined T name) (cond b (stops.answers (Ok S) left) (enter_generated enter_needed S (generated_by S name) left))
    by true there = some-found S name there (is_open.tabled name (g, is))
    by false there = generated

pub can-value : (S : Signature) (L n : ℕ) (f : Family) → L + 1 < top → f.level ≤ L → IsEntryAt S n (FamilyOf f) → IsGeneratedName S (all_name f L)
can-value S L n f fits level known =
    let reaches : nat_le f.level L ≡ true = grind (arith, nat_tests, level) in
    let ends : nat_lt (L + 1) top ≡ true = grind (arith, nat_tests, fits) in
    let below : L < top = omega (arith, fits) in
    listed-named S (made.All n f L) (known, below) (ap₂ (λ (x y : Bool). x && y) reaches ends)

pub can-recur : (S : Signature) (L n : ℕ) (f : Family) → L + 1 < top → f.level ≤ L → IsEntryAt S n (FamilyOf f)
    → IsGeneratedName S (below_name f L) × IsGeneratedName S (rec_name f L)
can-recur S L n f fits level known =
    let reaches : nat_le f.level L ≡ true = grind (arith, nat_tests, level) in
    let ends : nat_lt (L + 1) top ≡ true = grind (arith, nat_tests, fits) in
    let below : L < top = omega (arith, fits) in
    let test = and_from (nat_le f.level L) (nat_lt (L + 1) top) reaches ends in (
      listed-named S (made.Below n f L) (known, below) test,
      listed-named S (made.Rec n f L) (known, below) test,
    )
