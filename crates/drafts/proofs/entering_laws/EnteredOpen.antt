-- No family enters by a draft, and where a draft has entered a well-formed open signature, the new one is well formed and open again.
use Rattle.std.proofs.Common.{◌≡◌, refl, ℕ, zero, suc, Bool, true, false, cond, Option, Some, None, List, [], ◌∷◌, length, Result, Ok, Err, IfOk}
use Rattle.theory.specs.Terms.{Term}
use Rattle.theory.specs.Families.{Family}
use Rattle.theory.specs.Signatures.{Signature, Entry, FamilyOf, EliminatorAt, AxiomKAt, Definition}
use Rattle.theory.specs.WellFormed.{IsWellFormed}
use Rattle.core_terms.proofs.Answers.{Answers, and_next-has}
use Rattle.core_terms.specs.declared.stop.Stop.TheVariants.{Deep}
use Rattle.core_sig.specs.Drafts.{Draft}
use Rattle.core_sig.specs.Names.{find}
use Rattle.core_sig.specs.Settling.{renumbered_entry, settled_number}
use Rattle.kernel_reduce.specs.Entries.{family_at}
use Rattle.family_check.specs.Entering.{Entered, instance_of, axiom_k_of, define_of}
use Rattle.family_check.specs.Outcomes.{Outcome}
use Rattle.tree_translation.specs.Needed.{is_found}
use Rattle.clause_reports.specs.DraftEntering.{Mention, Eliminates, AssumesK, Names, Entering, mentioned, with_entry, enter_eliminator, enter_axiom_k, enter_generated, enter_mention, enter_all, enter_entry, enter_with, enter_chain, longest_chain, enter_needed, enter_draft_of}
use Rattle.clause_reports.specs.Generated.{Generated, generated_by, generated_draft}
use Rattle.clause_reports.specs.Stops.{ReportStop, Reporting, Halts, answers, or_halts, entering}
use Rattle.clause_reports.proofs.Keeping.{weaker, Any, any, entering-keeps, rejected-has}
use Rattle.drafts.specs.draft_entering.Conditions.{IsOpen, Extends}
use Rattle.drafts.proofs.draft_entering.Longer.{extends-same, extends-on, open-longer}
use Rattle.drafts.proofs.draft_entering.Entered.{define-pushed, pushed-longer, instance-extends, axiom_k-extends, ExtendsTo}
use Rattle.drafts.specs.entering_laws.Laws.{EnteredIsOpen, StaysOpen}
use Rattle.drafts.proofs.entering_laws.OpenSignatures.{well_formed-settled}

-- a property of each answer that is the outcome is one of the outcome's answer
of-answer : (P : Entered → Type 0) (outcome : Outcome Entered) → ((e : Entered) (rest : ℕ) → (Ok e, rest) ≡ outcome → P e) → IfOk outcome.0 P
of-answer P (Ok e, rest) h = h e rest refl
of-answer P (Err stop, rest) h = tt

pub define-extends : (S : Signature) (name : List ℕ) (type body : Term) (left : ℕ) → Answers (ExtendsTo S) (define_of S name type body left)
define-extends S name type body left =
    of-answer (ExtendsTo S) (define_of S name type body left) (λ e rest is.
    pushed-longer S e.signature name type body (define-pushed S e.signature name type body left e.number rest is).pushed_on)

with_entry-extends : (S : Signature) (outcome : Reporting Entered) → Answers (ExtendsTo S) outcome → Answers (Extends S) (with_entry outcome)
with_entry-extends S outcome h = and_next-has (ExtendsTo S) (Extends S) outcome _ h (λ e rest g. g)

-- ---- instances

enter_eliminator-extends : (S : Signature) (n m : ℕ) (f : Option Family) (left : ℕ) → Answers (Extends S) (enter_eliminator S n m f left)
enter_eliminator-extends S n m None left = extends-same S
enter_eliminator-extends S n m (Some f) left =
    with_entry-extends S (entering S (EliminatorAt n m) (instance_of S n f m left))
    (rejected-has (ExtendsTo S) S (EliminatorAt n m) (instance_of S n f m left).0
    (instance-extends S n f m left))

enter_axiom_k-extends : (S : Signature) (i m : ℕ) (on : Bool) (left : ℕ) → Answers (Extends S) (enter_axiom_k S i m on left)
enter_axiom_k-extends S i m true left =
    with_entry-extends S (entering S (AxiomKAt i m) (axiom_k_of S i m left))
    (rejected-has (ExtendsTo S) S (AxiomKAt i m) (axiom_k_of S i m left).0
    (axiom_k-extends S i m left))
enter_axiom_k-extends S i m false left = tt

-- ---- generated entries

-- an entering by entries that are no families
abbrev pub AllExtend : Entering → Type 0
AllExtend enter = (S : Signature) (d : Draft) (left : ℕ) → Answers (ExtendsTo S) (enter S d left)

enter_generated-extends : (enter : Entering) → AllExtend enter → (S : Signature) (g : Option Generated) (left : ℕ) → Answers (Extends S) (enter_generated enter S g left)
enter_generated-extends enter more S None left = extends-same S
enter_generated-extends enter more S (Some g) left =
    and_next-has Any (Extends S) (or_halts (generated_draft (length S.entries) g), left) _ (any (or_halts (generated_draft (length S.entries) g)))
    (λ d rest u. with_entry-extends S (enter S d rest) (more S d rest))

pub enter_mention-extends : (enter : Entering) → AllExtend enter → (S : Signature) (m : Mention) (left : ℕ) → Answers (Extends S) (enter_mention enter S m left)
enter_mention-extends enter more S (Eliminates n m) left = enter_eliminator-extends S n m (family_at S n) left
enter_mention-extends enter more S (AssumesK i m) left = enter_axiom_k-extends S i m S.has_k left
enter_mention-extends enter more S (Names name) left = by (is_found (find S name))
  where
    by : (there : Bool) → Answers (Extends S) (cond there (Ok S, left) (enter_generated enter S (generated_by S name) left))
    by true = extends-same S
    by false = enter_generated-extends enter more S (generated_by S name) left

pub enter_all-extends : (enter : Entering) → AllExtend enter → (S : Signature) (mentions : List Mention) (left : ℕ) → Answers (Extends S) (enter_all enter S mentions left)
enter_all-extends enter more S [] left = extends-same S
enter_all-extends enter more S (m ∷ mentions) left =
    and_next-has (Extends S) (Extends S) (enter_mention enter S m left) _ (enter_mention-extends enter more S m left) (λ T rest g.
    weaker (Extends T) (Extends S) (enter_all enter T mentions rest).0 (λ U h. extends-on S T U g h) (enter_all-extends enter more T mentions rest))

pub enter_entry-extends : (S : Signature) (e : Entry) (left : ℕ) → Answers (ExtendsTo S) (enter_entry S e left)
enter_entry-extends S (Definition name type body) left =
    rejected-has (ExtendsTo S) S (Definition name type body) (define_of S name type body left).0
    (define-extends S name type body left)
enter_entry-extends S (FamilyOf f) left = tt
enter_entry-extends S (EliminatorAt n m) left = tt
enter_entry-extends S (AxiomKAt i m) left = tt

enter_with-extends : (enter : Entering) → AllExtend enter → AllExtend (enter_with enter)
enter_with-extends enter more S d left =
    and_next-has (Extends S) (ExtendsTo S) (enter_all enter S (mentioned d) left) _ (enter_all-extends enter more S (mentioned d) left) (λ T rest g.
    weaker (ExtendsTo T) (ExtendsTo S) (enter_entry T (renumbered_entry (settled_number T d.base d.names) d.entry) rest).0
    (λ e h. extends-on S T e.signature g h)
    (enter_entry-extends T (renumbered_entry (settled_number T d.base d.names) d.entry) rest))

enter_chain-extends : (chain : ℕ) → AllExtend (enter_chain chain)
enter_chain-extends zero S d left = enter_with-extends (λ T other rest. answers (Err (Halts Deep)) rest) (λ T other rest. tt) S d left
enter_chain-extends (suc chain) S d left = enter_with-extends (enter_chain chain) (enter_chain-extends chain) S d left

pub enter_needed-extends : AllExtend enter_needed
enter_needed-extends S d left = enter_chain-extends longest_chain S d left

pub entering-extends : AllExtend enter_draft_of
entering-extends S d left = enter_with-extends enter_needed enter_needed-extends S d left

-- ---- the law

stays : (S : Signature) (r : Result Entered ReportStop) → IsOpen S → IfOk r (λ e. IsWellFormed e.signature) → IfOk r (ExtendsTo S)
    → IfOk r (λ e. StaysOpen S e.signature)
stays S (Ok e) is h more = record {
  well_formed = h;
  ready = open-longer S e.signature more (well_formed-settled e.signature h) is;
  longer = more;
}
stays S (Err e) is h more = tt

pub entered-open : EnteredIsOpen
entered-open S d left h is =
    stays S (enter_draft_of S d left).0 is (entering-keeps S d left h is.prelude) (entering-extends S d left)
