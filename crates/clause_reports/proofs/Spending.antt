-- Entering and reports give no units back.
use Rattle.std.proofs.Common.{ℕ, zero, suc, ◌≤◌, Bool, true, false, cond, Option, Some, None, List, [], ◌∷◌, Ok, Err, length, arith}
use Rattle.theory.specs.Families.{Family}
use Rattle.theory.specs.Signatures.{Signature, Entry, FamilyOf, EliminatorAt, AxiomKAt, Definition}
use Rattle.core_terms.proofs.Answers.{and_next-spends}
use Rattle.core_sig.specs.Drafts.{Draft}
use Rattle.core_sig.specs.Names.{find}
use Rattle.core_sig.specs.Settling.{renumbered_entry, settled_number}
use Rattle.kernel_reduce.specs.Entries.{family_at}
use Rattle.family_check.specs.Entering.{Entered}
use Rattle.family_check.proofs.Spending.{instance-spends, axiom_k-spends, define-spends}
use Rattle.tree_translation.specs.Needed.{is_found}
use Rattle.clause_reports.specs.DraftEntering.{Mention, Eliminates, AssumesK, Names, Entering, mentioned, with_entry, enter_eliminator, enter_axiom_k, enter_generated, enter_mention, enter_all, enter_entry, enter_with, enter_chain, longest_chain, enter_needed}
use Rattle.clause_reports.specs.Generated.{Generated, generated_by, generated_draft}
use Rattle.clause_reports.specs.Laws.{EnteringSpends}
use Rattle.core_terms.specs.declared.stop.Stop.TheVariants.{Deep}
use Rattle.clause_reports.specs.Stops.{Reporting, Halts, answers, or_halts}

-- an entering that gives no units back
abbrev pub Spends : Entering → Type 0
Spends enter = (S : Signature) (d : Draft) (left : ℕ) → (enter S d left).1 ≤ left

with_entry-spends : (outcome : Reporting Entered) (left : ℕ) → outcome.1 ≤ left → (with_entry outcome).1 ≤ left
with_entry-spends outcome left h = and_next-spends outcome _ left h (λ e rest. omega arith)

enter_eliminator-spends : (S : Signature) (n m : ℕ) (f : Option Family) (left : ℕ) → (enter_eliminator S n m f left).1 ≤ left
enter_eliminator-spends S n m None left = omega arith
enter_eliminator-spends S n m (Some f) left = with_entry-spends _ left (instance-spends S n f m left)

enter_axiom_k-spends : (S : Signature) (i m : ℕ) (on : Bool) (left : ℕ) → (enter_axiom_k S i m on left).1 ≤ left
enter_axiom_k-spends S i m true left = with_entry-spends _ left (axiom_k-spends S i m left)
enter_axiom_k-spends S i m false left = omega arith

enter_generated-spends : (enter : Entering) → Spends enter → (S : Signature) (g : Option Generated) (left : ℕ) → (enter_generated enter S g left).1 ≤ left
enter_generated-spends enter spends S None left = omega arith
enter_generated-spends enter spends S (Some g) left =
    and_next-spends (or_halts (generated_draft (length S.entries) g), left) _ left (omega arith) (λ d rest.
    with_entry-spends (enter S d rest) rest (spends S d rest))

pub enter_mention-spends : (enter : Entering) → Spends enter → (S : Signature) (m : Mention) (left : ℕ) → (enter_mention enter S m left).1 ≤ left
enter_mention-spends enter spends S (Eliminates n m) left = enter_eliminator-spends S n m (family_at S n) left
enter_mention-spends enter spends S (AssumesK i m) left = enter_axiom_k-spends S i m S.has_k left
enter_mention-spends enter spends S (Names name) left = by (is_found (find S name))
  where
    by : (there : Bool) → (cond there (Ok S, left) (enter_generated enter S (generated_by S name) left)).1 ≤ left
    by true = omega arith
    by false = enter_generated-spends enter spends S (generated_by S name) left

pub enter_all-spends : (enter : Entering) → Spends enter → (S : Signature) (mentions : List Mention) (left : ℕ) → (enter_all enter S mentions left).1 ≤ left
enter_all-spends enter spends S [] left = omega arith
enter_all-spends enter spends S (m ∷ mentions) left =
    and_next-spends (enter_mention enter S m left) _ left (enter_mention-spends enter spends S m left)
    (λ T rest. enter_all-spends enter spends T mentions rest)

pub enter_entry-spends : (S : Signature) (e : Entry) (left : ℕ) → (enter_entry S e left).1 ≤ left
enter_entry-spends S (Definition name type body) left = define-spends S name type body left
enter_entry-spends S (FamilyOf f) left = omega arith
enter_entry-spends S (EliminatorAt n m) left = omega arith
enter_entry-spends S (AxiomKAt i m) left = omega arith

enter_with-spends : (enter : Entering) → Spends enter → Spends (enter_with enter)
enter_with-spends enter spends S d left =
    and_next-spends (enter_all enter S (mentioned d) left) _ left (enter_all-spends enter spends S (mentioned d) left) (λ T rest.
    enter_entry-spends T (renumbered_entry (settled_number T d.base d.names) d.entry) rest)

enter_chain-spends : (chain : ℕ) → Spends (enter_chain chain)
enter_chain-spends zero S d left =
    enter_with-spends (λ T other rest. answers (Err (Halts Deep)) rest) (λ T other rest. omega arith) S d left
enter_chain-spends (suc chain) S d left = enter_with-spends (enter_chain chain) (enter_chain-spends chain) S d left

pub enter_needed-spends : Spends enter_needed
enter_needed-spends S d left = enter_chain-spends longest_chain S d left

pub entering-spends : EnteringSpends
entering-spends S d left = enter_with-spends enter_needed enter_needed-spends S d left
