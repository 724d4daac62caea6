-- Where a draft enters, each new entry is accepted by itself.
use Rattle.std.proofs.Common.{◌≡◌, ℕ, zero, suc, ◌≤◌, Bool, true, false, cond, Option, Some, None, List, [], ◌∷◌, length, Ok, Err, refl, arith}
use Rattle.theory.specs.Families.{Family}
use Rattle.theory.specs.Signatures.{Signature, Entry, FamilyOf, EliminatorAt, AxiomKAt, Definition}
use Rattle.core_terms.specs.declared.stop.Stop.TheVariants.{Deep}
use Rattle.core_sig.specs.Drafts.{Draft}
use Rattle.core_sig.specs.Names.{find}
use Rattle.core_sig.specs.Settling.{renumbered_entry, settled_number}
use Rattle.kernel_reduce.specs.Entries.{family_at}
use Rattle.kernel_reduce.proofs.LookUps.{family-found}
use Rattle.family_check.specs.Entering.{Entered, instance_of, axiom_k_of, define_of}
use Rattle.family_check.specs.Outcomes.{Outcome}
use Rattle.tree_translation.specs.Needed.{is_found}
use Rattle.clause_reports.specs.DraftEntering.{Mention, Eliminates, AssumesK, Names, Entering, mentioned, with_entry, enter_eliminator, enter_axiom_k, enter_generated, enter_mention, enter_all, enter_entry, enter_with, enter_chain, longest_chain, enter_needed, enter_draft_of}
use Rattle.clause_reports.specs.Generated.{Generated, generated_by, generated_draft}
use Rattle.clause_reports.specs.Stops.{Reporting, Halts, answers, or_halts, entering}
use Rattle.clause_reports.proofs.Keeping.{Any, any, rejected-has}
use Rattle.elim.specs.refusal_laws.accepted_laws.Checked.{Checked, unchanged}
use Rattle.elim.specs.refusal_laws.accepted_laws.Laws.{EnteringIsChecked}
use Rattle.elim.proofs.refusal_laws.accepted_laws.Steps.{CheckedTo, Within, within-next, weaker-within, checked-on, define-checked, instance-checked, axiom_k-checked}

module _ (fuel : ℕ) where
  -- an entry that enters, or does not
  entering-within : (S : Signature) (e : Entry) (outcome : Outcome Entered) → Within fuel (CheckedTo fuel S) outcome → Within fuel (CheckedTo fuel S) (entering S e outcome)
  entering-within S e outcome h = (rejected-has (CheckedTo fuel S) S e outcome.0 h.0, h.1)

  with_entry-within : (S : Signature) (outcome : Reporting Entered) → Within fuel (CheckedTo fuel S) outcome → Within fuel (Checked fuel S) (with_entry outcome)
  with_entry-within S outcome h = within-next fuel (CheckedTo fuel S) (Checked fuel S) outcome _ h (λ e rest le g. (g, le))

  -- ---- instances

  enter_eliminator-within : (S : Signature) (n m : ℕ) (f : Option Family) (left : ℕ) → family_at S n ≡ f → left ≤ fuel
      → Within fuel (Checked fuel S) (enter_eliminator S n m f left)
  enter_eliminator-within S n m None left at le = (unchanged, le)
  enter_eliminator-within S n m (Some f) left at le =
      with_entry-within S (entering S (EliminatorAt n m) (instance_of S n f m left))
      (entering-within S (EliminatorAt n m) (instance_of S n f m left) (instance-checked S n f m left fuel (family-found S n f at) le))

  enter_axiom_k-within : (S : Signature) (i m : ℕ) (on : Bool) (left : ℕ) → left ≤ fuel → Within fuel (Checked fuel S) (enter_axiom_k S i m on left)
  enter_axiom_k-within S i m true left le =
      with_entry-within S (entering S (AxiomKAt i m) (axiom_k_of S i m left))
      (entering-within S (AxiomKAt i m) (axiom_k_of S i m left) (axiom_k-checked S i m left fuel le))
  enter_axiom_k-within S i m false left le = (tt, le)

  -- ---- generated entries

  -- an entering by entries that are accepted by themselves
  abbrev AllChecked : Entering → Type 0
  AllChecked enter = (S : Signature) (d : Draft) (left : ℕ) → left ≤ fuel → Within fuel (CheckedTo fuel S) (enter S d left)

  enter_generated-within : (enter : Entering) → AllChecked enter → (S : Signature) (g : Option Generated) (left : ℕ) → left ≤ fuel
      → Within fuel (Checked fuel S) (enter_generated enter S g left)
  enter_generated-within enter h S None left le = (unchanged, le)
  enter_generated-within enter h S (Some g) left le =
      within-next fuel Any (Checked fuel S) (or_halts (generated_draft (length S.entries) g), left) _ (any (or_halts (generated_draft (length S.entries) g)), le)
      (λ d rest less u. with_entry-within S (enter S d rest) (h S d rest less))

  enter_mention-within : (enter : Entering) → AllChecked enter → (S : Signature) (m : Mention) (left : ℕ) → left ≤ fuel
      → Within fuel (Checked fuel S) (enter_mention enter S m left)
  enter_mention-within enter h S (Eliminates n m) left le = enter_eliminator-within S n m (family_at S n) left refl le
  enter_mention-within enter h S (AssumesK i m) left le = enter_axiom_k-within S i m S.has_k left le
  enter_mention-within enter h S (Names name) left le = by (is_found (find S name))
    where
      by : (there : Bool) → Within fuel (Checked fuel S) (cond there (answers (Ok S) left) (enter_generated enter S (generated_by S name) left))
      by true = (unchanged, le)
      by false = enter_generated-within enter h S (generated_by S name) left le

  enter_all-within : (enter : Entering) → AllChecked enter → (S : Signature) (mentions : List Mention) (left : ℕ) → left ≤ fuel
      → Within fuel (Checked fuel S) (enter_all enter S mentions left)
  enter_all-within enter h S [] left le = (unchanged, le)
  enter_all-within enter h S (m ∷ mentions) left le =
      within-next fuel (Checked fuel S) (Checked fuel S) (enter_mention enter S m left) _ (enter_mention-within enter h S m left le) (λ T rest less g.
      weaker-within fuel (Checked fuel T) (Checked fuel S) (enter_all enter T mentions rest) (λ U k. checked-on g k) (enter_all-within enter h T mentions rest less))

  pub enter_entry-within : (S : Signature) (e : Entry) (left : ℕ) → left ≤ fuel → Within fuel (CheckedTo fuel S) (enter_entry S e left)
  enter_entry-within S (Definition name type body) left le =
      entering-within S (Definition name type body) (define_of S name type body left) (define-checked S name type body left fuel le)
  enter_entry-within S (FamilyOf f) left le = (tt, le)
  enter_entry-within S (EliminatorAt n m) left le = (tt, le)
  enter_entry-within S (AxiomKAt i m) left le = (tt, le)

  enter_with-within : (enter : Entering) → AllChecked enter → AllChecked (enter_with enter)
  enter_with-within enter h S d left le =
      within-next fuel (Checked fuel S) (CheckedTo fuel S) (enter_all enter S (mentioned d) left) _ (enter_all-within enter h S (mentioned d) left le) (λ T rest less g.
      let e = renumbered_entry (settled_number T d.base d.names) d.entry in
      weaker-within fuel (CheckedTo fuel T) (CheckedTo fuel S) (enter_entry T e rest) (λ x k. checked-on g k) (enter_entry-within T e rest less))

  enter_chain-within : (chain : ℕ) → AllChecked (enter_chain chain)
  enter_chain-within zero S d left le = enter_with-within (λ T other rest. answers (Err (Halts Deep)) rest) (λ T other rest less. (tt, less)) S d left le
  enter_chain-within (suc chain) S d left le = enter_with-within (enter_chain chain) (enter_chain-within chain) S d left le

  enter_needed-within : AllChecked enter_needed
  enter_needed-within S d left le = enter_chain-within longest_chain S d left le

  pub needed-within : (S : Signature) (mentions : List Mention) (left : ℕ) → left ≤ fuel → Within fuel (Checked fuel S) (enter_all enter_needed S mentions left)
  needed-within S mentions left le = enter_all-within enter_needed enter_needed-within S mentions left le

  pub mention-within : (S : Signature) (m : Mention) (left : ℕ) → left ≤ fuel → Within fuel (Checked fuel S) (enter_mention enter_needed S m left)
  mention-within S m left le = enter_mention-within enter_needed enter_needed-within S m left le

  pub draft-within : (S : Signature) (d : Draft) (left : ℕ) → left ≤ fuel → Within fuel (CheckedTo fuel S) (enter_draft_of S d left)
  draft-within S d left le = enter_with-within enter_needed enter_needed-within S d left le

pub entering-is-checked : EnteringIsChecked
entering-is-checked S d fuel = (draft-within fuel S d fuel (omega arith)).0
