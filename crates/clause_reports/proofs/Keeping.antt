-- New entries come after those that are there, and a well-formed signature stays well formed.
use Rattle.std.proofs.Common.{◌≡◌, subst as transport, sym, refl, ℕ, zero, suc, Bool, true, false, cond, Option, Some, None, List, [], ◌∷◌, length, Result, Ok, Err, IfOk, arith, length-append}
use Rattle.theory.specs.Terms.{Term}
use Rattle.theory.specs.Families.{Family}
use Rattle.theory.specs.Signatures.{Signature, Entry, FamilyOf, EliminatorAt, AxiomKAt, Definition, IsPrefix}
use Rattle.theory.specs.WellFormed.{IsWellFormed}
use Rattle.theory.proofs.Pushing.{prefix_reflexive, prefix_transitive}
use Rattle.core_terms.proofs.Answers.{Answers, and_next-has}
use Rattle.core_terms.specs.declared.stop.Stop.TheVariants.{Deep}
use Rattle.core_sig.specs.Drafts.{Draft}
use Rattle.core_sig.specs.Names.{find}
use Rattle.core_sig.specs.Settling.{renumbered_entry, settled_number}
use Rattle.kernel_reduce.specs.Entries.{family_at}
use Rattle.kernel_reduce.proofs.LookUps.{family-found}
use Rattle.family_check.specs.Entering.{Entered, instance_of, axiom_k_of, define_of, check_definition, are_new}
use Rattle.family_check.specs.Asking.{sort_in, type_in}
use Rattle.family_check.specs.Outcomes.{FamilyStop, OfType, OfBody}
use Rattle.family_check.specs.Scopes.{HasPrelude}
use Rattle.family_check.proofs.Outcomes.{if_new-has}
use Rattle.family_check.proofs.Extending.{instance-extends, axiom_k-extends, define-extends}
use Rattle.family_check.proofs.Soundness.{instance-keeps, axiom_k-keeps, define-keeps}
use Rattle.theory.specs.Prelude.{prelude}
use Rattle.tree_translation.specs.Needed.{is_found}
use Rattle.clause_reports.specs.DraftEntering.{Mention, Eliminates, AssumesK, Names, Entering, mentioned, with_entry, enter_eliminator, enter_axiom_k, enter_generated, enter_mention, enter_all, enter_entry, enter_with, enter_chain, longest_chain, enter_needed, enter_draft_of}
use Rattle.clause_reports.specs.Generated.{Generated, generated_by, generated_draft}
use Rattle.clause_reports.specs.Laws.{EnteringAdds, EnteringKeepsWellFormed, Enters}
use Rattle.clause_reports.specs.Stops.{ReportStop, Reporting, Halts, answers, or_halts, or_rejected, entering}

-- T has come from S by entries that keep it well formed
pub record Grows (S T : Signature) : Type 0 where
  pub prefix : IsPrefix S T
  pub keeps : IsWellFormed S → HasPrelude S → IsWellFormed T

pub prelude-on : (S T : Signature) → IsPrefix S T → HasPrelude S → HasPrelude T
prelude-on S T more h =
    transport (λ k. IsPrefix (prelude k) T) (sym more.has_k) (prefix_transitive (prelude S.has_k) S T h more)

pub grows_same : (S : Signature) → Grows S S
grows_same S = record { prefix = prefix_reflexive S; keeps = λ h p. h }

pub grows_on : (S T U : Signature) → Grows S T → Grows T U → Grows S U
grows_on S T U first second = record {
  prefix = prefix_transitive S T U first.prefix second.prefix;
  keeps = λ h p. second.keeps (first.keeps h p) (prelude-on S T first.prefix p);
}

pub weaker : {A E : Type 0} (P Q : A → Type 0) (r : Result A E) → ((a : A) → P a → Q a) → IfOk r P → IfOk r Q
weaker P Q (Ok a) k h = k a h
weaker P Q (Err e) k h = tt

abbrev pub Any : {A : Type 0} → A → Type 0
Any a = Unit {0}

-- a consequence of two facts of one answer
pub weaker-of-two : {A E : Type 0} (P Q Z : A → Type 0) (r : Result A E) → IfOk r P → IfOk r Q → ((a : A) → P a → Q a → Z a) → IfOk r Z
weaker-of-two P Q Z (Ok a) p q k = k a p q
weaker-of-two P Q Z (Err e) p q k = tt

pub any : {A E : Type 0} (r : Result A E) → IfOk r Any
any (Ok a) = tt
any (Err e) = tt

-- the signature after an entry
abbrev pub GrowsTo : Signature → Entered → Type 0
GrowsTo S e = Grows S e.signature

gathered : {E : Type 0} (S : Signature) (r : Result Entered E) → IfOk r (λ e. IsPrefix S e.signature)
    → (IsWellFormed S → HasPrelude S → IfOk r (λ e. IsWellFormed e.signature)) → IfOk r (GrowsTo S)
gathered S (Ok e) prefix keeps = record { prefix = prefix; keeps = keeps }
gathered S (Err e) prefix keeps = tt

pub rejected-has : (P : Entered → Type 0) (S : Signature) (e : Entry) (r : Result Entered FamilyStop) → IfOk r P → IfOk (or_rejected S e r) P
rejected-has P S e (Ok a) h = h
rejected-has P S e (Err cause) h = tt

with_entry-grows : (S : Signature) (outcome : Reporting Entered) → Answers (GrowsTo S) outcome → Answers (Grows S) (with_entry outcome)
with_entry-grows S outcome h = and_next-has (GrowsTo S) (Grows S) outcome _ h (λ e rest g. g)

-- ---- instances

enter_eliminator-grows : (S : Signature) (n m : ℕ) (f : Option Family) (left : ℕ) → family_at S n ≡ f → Answers (Grows S) (enter_eliminator S n m f left)
enter_eliminator-grows S n m None left at = grows_same S
enter_eliminator-grows S n m (Some f) left at =
    with_entry-grows S (entering S (EliminatorAt n m) (instance_of S n f m left))
    (rejected-has (GrowsTo S) S (EliminatorAt n m) (instance_of S n f m left).0
    (gathered S (instance_of S n f m left).0 (instance-extends S n f m left)
    (λ h p. instance-keeps S n f m left h (family-found S n f at))))

enter_axiom_k-grows : (S : Signature) (i m : ℕ) (on : Bool) (left : ℕ) → S.has_k ≡ on → Answers (Grows S) (enter_axiom_k S i m on left)
enter_axiom_k-grows S i m true left is =
    with_entry-grows S (entering S (AxiomKAt i m) (axiom_k_of S i m left))
    (rejected-has (GrowsTo S) S (AxiomKAt i m) (axiom_k_of S i m left).0
    (gathered S (axiom_k_of S i m left).0 (axiom_k-extends S i m left)
    (λ h p. axiom_k-keeps S i m left h is p)))
enter_axiom_k-grows S i m false left is = tt

-- ---- generated entries

-- an entering under which signatures grow
abbrev pub AllGrow : Entering → Type 0
AllGrow enter = (S : Signature) (d : Draft) (left : ℕ) → Answers (GrowsTo S) (enter S d left)

enter_generated-grows : (enter : Entering) → AllGrow enter → (S : Signature) (g : Option Generated) (left : ℕ) → Answers (Grows S) (enter_generated enter S g left)
enter_generated-grows enter grow S None left = grows_same S
enter_generated-grows enter grow S (Some g) left =
    and_next-has Any (Grows S) (or_halts (generated_draft (length S.entries) g), left) _ (any (or_halts (generated_draft (length S.entries) g)))
    (λ d rest u. with_entry-grows S (enter S d rest) (grow S d rest))

pub enter_mention-grows : (enter : Entering) → AllGrow enter → (S : Signature) (m : Mention) (left : ℕ) → Answers (Grows S) (enter_mention enter S m left)
enter_mention-grows enter grow S (Eliminates n m) left = enter_eliminator-grows S n m (family_at S n) left refl
enter_mention-grows enter grow S (AssumesK i m) left = enter_axiom_k-grows S i m S.has_k left refl
enter_mention-grows enter grow S (Names name) left = by (is_found (find S name))
  where
    by : (there : Bool) → Answers (Grows S) (cond there (Ok S, left) (enter_generated enter S (generated_by S name) left))
    by true = grows_same S
    by false = enter_generated-grows enter grow S (generated_by S name) left

pub enter_all-grows : (enter : Entering) → AllGrow enter → (S : Signature) (mentions : List Mention) (left : ℕ) → Answers (Grows S) (enter_all enter S mentions left)
enter_all-grows enter grow S [] left = grows_same S
enter_all-grows enter grow S (m ∷ mentions) left =
    and_next-has (Grows S) (Grows S) (enter_mention enter S m left) _ (enter_mention-grows enter grow S m left) (λ T rest g.
    weaker (Grows T) (Grows S) (enter_all enter T mentions rest).0 (λ U h. grows_on S T U g h) (enter_all-grows enter grow T mentions rest))

pub enter_entry-grows : (S : Signature) (e : Entry) (left : ℕ) → Answers (GrowsTo S) (enter_entry S e left)
enter_entry-grows S (Definition name type body) left =
    rejected-has (GrowsTo S) S (Definition name type body) (define_of S name type body left).0
    (gathered S (define_of S name type body left).0 (define-extends S name type body left) (λ h p. define-keeps S name type body left h))
enter_entry-grows S (FamilyOf f) left = tt
enter_entry-grows S (EliminatorAt n m) left = tt
enter_entry-grows S (AxiomKAt i m) left = tt

enter_with-grows : (enter : Entering) → AllGrow enter → AllGrow (enter_with enter)
enter_with-grows enter grow S d left =
    and_next-has (Grows S) (GrowsTo S) (enter_all enter S (mentioned d) left) _ (enter_all-grows enter grow S (mentioned d) left) (λ T rest g.
    weaker (GrowsTo T) (GrowsTo S) (enter_entry T (renumbered_entry (settled_number T d.base d.names) d.entry) rest).0 (λ e h. grows_on S T e.signature g h)
    (enter_entry-grows T (renumbered_entry (settled_number T d.base d.names) d.entry) rest))

enter_chain-grows : (chain : ℕ) → AllGrow (enter_chain chain)
enter_chain-grows zero S d left = enter_with-grows (λ T other rest. answers (Err (Halts Deep)) rest) (λ T other rest. tt) S d left
enter_chain-grows (suc chain) S d left = enter_with-grows (enter_chain chain) (enter_chain-grows chain) S d left

pub enter_needed-grows : AllGrow enter_needed
enter_needed-grows S d left = enter_chain-grows longest_chain S d left

pub entering-grows : AllGrow enter_draft_of
entering-grows S d left = enter_with-grows enter_needed enter_needed-grows S d left

-- ---- the last entry

abbrev IsLast : Entered → Type 0
IsLast e = length e.signature.entries ≡ suc e.number

define-last : (S : Signature) (name : List ℕ) (type body : Term) (left : ℕ) → IfOk (define_of S name type body left).0 IsLast
define-last S name type body left =
    if_new-has IsLast (are_new S (name ∷ [])) (check_definition S name type body) left (λ test.
    and_next-has Any IsLast (sort_in S OfType [] type left) _ (any (sort_in S OfType [] type left).0) (λ sort rest u.
    and_next-has Any IsLast (type_in S OfBody [] body type rest) _ (any (type_in S OfBody [] body type rest).0) (λ found end v.
    omega (arith, length-append S.entries (Definition name type body ∷ [])))))

enter_entry-last : (S : Signature) (e : Entry) (left : ℕ) → Answers IsLast (enter_entry S e left)
enter_entry-last S (Definition name type body) left =
    rejected-has IsLast S (Definition name type body) (define_of S name type body left).0 (define-last S name type body left)
enter_entry-last S (FamilyOf f) left = tt
enter_entry-last S (EliminatorAt n m) left = tt
enter_entry-last S (AxiomKAt i m) left = tt

entering-last : (S : Signature) (d : Draft) (left : ℕ) → Answers IsLast (enter_draft_of S d left)
entering-last S d left =
    and_next-has Any IsLast (enter_all enter_needed S (mentioned d) left) _ (any (enter_all enter_needed S (mentioned d) left).0) (λ T rest u.
    enter_entry-last T (renumbered_entry (settled_number T d.base d.names) d.entry) rest)

-- ---- the laws

adds : (S : Signature) (r : Result Entered ReportStop) → IfOk r (GrowsTo S) → IfOk r IsLast → IfOk r (Enters S)
adds S (Ok e) g l = record { prefix = g.prefix; last = l }
adds S (Err e) g l = tt

pub entering-adds : EnteringAdds
entering-adds S d left = adds S (enter_draft_of S d left).0 (entering-grows S d left) (entering-last S d left)

pub entering-keeps : EnteringKeepsWellFormed
entering-keeps S d left h p =
    weaker (GrowsTo S) (λ e. IsWellFormed e.signature) (enter_draft_of S d left).0 (λ e g. g.keeps h p) (entering-grows S d left)
