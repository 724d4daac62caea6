-- An entry that is rejected on the way to the proof of a clause is not that proof: it has another name.
use Rattle.std.proofs.Common.{◌≡◌, ℕ, zero, suc, ◌-◌, Bool, true, false, cond, Option, Some, None, List, [], ◌∷◌, length, Result, Ok, Err, IfOk, refl, sym, subst as transport}
use Rattle.theory.specs.Families.{Family}
use Rattle.theory.specs.Signatures.{Signature, Entry, EliminatorAt, AxiomKAt}
use Rattle.theory.specs.Signatures.Entry.{FamilyOf, Definition}
use Rattle.core_terms.specs.Answers.{and_next}
use Rattle.core_terms.specs.declared.stop.Stop.{Stop}
use Rattle.core_terms.specs.declared.stop.Stop.TheVariants.{Deep}
use Rattle.core_sig.specs.Drafts.{Draft}
use Rattle.core_sig.specs.Names.{find}
use Rattle.core_sig.specs.Settling.{renumbered_entry, settled_number}
use Rattle.core_text.specs.SymbolNames.{name_at}
use Rattle.family_check.specs.Entering.{Entered, instance_of, axiom_k_of, define_of}
use Rattle.family_check.specs.Outcomes.{FamilyStop, Stopped, Denied, NotPositive, TooLarge, BadFamily, Duplicate}
use Rattle.kernel_reduce.specs.Entries.{family_at}
use Rattle.tree_translation.specs.Needed.{is_found}
use Rattle.clause_reports.specs.DraftEntering.{Mention, Eliminates, AssumesK, Names, Entering, mentioned, with_entry, enter_eliminator, enter_axiom_k, enter_generated, enter_mention, enter_all, enter_entry, enter_with, enter_chain, longest_chain, enter_needed}
use Rattle.clause_reports.specs.Generated.{Generated, generated_by, generated_draft, name_of}
use Rattle.clause_reports.specs.Stops.{ReportStop, Reporting, Halts, Stuck, Rejected, answers, or_halts, or_rejected, entry_name, entering}
use Rattle.drafts.specs.draft_entering.Depths.{entry_own_name, own_name}
use Rattle.drafts.specs.draft_entering.Tables.{IsMadeOf, names_by}
use Rattle.drafts.proofs.draft_entering.TableLookups.{generated-made}
use Rattle.clause_lines.proofs.NameMarks.{IsOther, axiom_k-other, eliminator-other, generated-other}

-- the entry that is rejected has another name
abbrev pub DeniesOthers : {A : Type 0} → Result A ReportStop → Type 0
DeniesOthers (Ok a) = Unit {0}
DeniesOthers (Err (Halts e)) = Unit {0}
DeniesOthers (Err (Stuck context left right why)) = Unit {0}
DeniesOthers (Err (Rejected r)) = IsOther r.entry

next-denies : {A B : Type 0} (first : Reporting A) (go : A → ℕ → Reporting B) → DeniesOthers first.0
    → ((a : A) (rest : ℕ) → DeniesOthers (go a rest).0) → DeniesOthers (and_next first go).0
next-denies (Ok a, left) go h k = k a left
next-denies (Err (Halts e), left) go h k = tt
next-denies (Err (Stuck context u v why), left) go h k = tt
next-denies (Err (Rejected r), left) go h k = h

rejected-denies : {A : Type 0} (S : Signature) (e : Entry) (r : Result A FamilyStop) → IsOther (entry_name S e) → DeniesOthers (or_rejected S e r)
rejected-denies S e (Ok a) h = tt
rejected-denies S e (Err (Stopped stop)) h = tt
rejected-denies S e (Err (Denied site d)) h = h
rejected-denies S e (Err (NotPositive n k)) h = tt
rejected-denies S e (Err (TooLarge n k)) h = tt
rejected-denies S e (Err BadFamily) h = tt
rejected-denies S e (Err Duplicate) h = tt

with_entry-denies : (outcome : Reporting Entered) → DeniesOthers outcome.0 → DeniesOthers (with_entry outcome).0
with_entry-denies outcome h = next-denies outcome (λ e rest. answers (Ok e.signature) rest) h (λ e rest. tt)

-- ---- instances

eliminator-denies : (S : Signature) (n m : ℕ) (f : Option Family) (left : ℕ) → DeniesOthers (enter_eliminator S n m f left).0
eliminator-denies S n m None left = tt
eliminator-denies S n m (Some f) left =
    with_entry-denies (entering S (EliminatorAt n m) (instance_of S n f m left))
    (rejected-denies S (EliminatorAt n m) (instance_of S n f m left).0 (eliminator-other (name_at S n) m))

axiom_k-denies : (S : Signature) (i m : ℕ) (on : Bool) (left : ℕ) → DeniesOthers (enter_axiom_k S i m on left).0
axiom_k-denies S i m true left =
    with_entry-denies (entering S (AxiomKAt i m) (axiom_k_of S i m left)) (rejected-denies S (AxiomKAt i m) (axiom_k_of S i m left).0 (axiom_k-other i m))
axiom_k-denies S i m false left = tt

-- ---- drafts

-- where a draft with another name enters, the entry that is rejected has another name
abbrev EntersOthers : Entering → Type 0
EntersOthers enter = (S : Signature) (d : Draft) (left : ℕ) → IsOther (own_name d) → DeniesOthers (enter S d left).0

own-other : (base : ℕ) (g : Generated) (d : Draft) → generated_draft base g ≡ Ok d → IsOther (own_name d)
own-other base g d is =
    let made : IsMadeOf (name_of g) (names_by g) d = transport (λ r. IfOk r (IsMadeOf (name_of g) (names_by g))) is (generated-made base g) in
    transport IsOther (sym made.own) (generated-other g)

generated-denies : (enter : Entering) → EntersOthers enter → (S : Signature) (g : Option Generated) (left : ℕ) → DeniesOthers (enter_generated enter S g left).0
generated-denies enter h S None left = tt
generated-denies enter h S (Some g) left = by (generated_draft (length S.entries) g) refl
  where
    by : (r : Result Draft Stop) → generated_draft (length S.entries) g ≡ r
        → DeniesOthers (and_next (answers (or_halts r) left) (λ d rest. with_entry (enter S d rest))).0
    by (Ok d) is = with_entry-denies (enter S d left) (h S d left (own-other (length S.entries) g d is))
    by (Err e) is = tt

mention-denies : (enter : Entering) → EntersOthers enter → (S : Signature) (m : Mention) (left : ℕ) → DeniesOthers (enter_mention enter S m left).0
mention-denies enter h S (Eliminates n m) left = eliminator-denies S n m (family_at S n) left
mention-denies enter h S (AssumesK i m) left = axiom_k-denies S i m S.has_k left
mention-denies enter h S (Names name) left = by (is_found (find S name))
  where
    by : (b : Bool) → DeniesOthers (cond b (answers (Ok S) left) (enter_generated enter S (generated_by S name) left)).0
    by true = tt
    by false = generated-denies enter h S (generated_by S name) left

all-denies : (enter : Entering) → EntersOthers enter → (S : Signature) (mentions : List Mention) (left : ℕ) → DeniesOthers (enter_all enter S mentions left).0
all-denies enter h S [] left = tt
all-denies enter h S (m ∷ mentions) left =
    next-denies (enter_mention enter S m left) (λ T rest. enter_all enter T mentions rest) (mention-denies enter h S m left)
    (λ T rest. all-denies enter h T mentions rest)

entry-denies : (S : Signature) (e : Entry) (left : ℕ) → IsOther (entry_own_name e) → DeniesOthers (enter_entry S e left).0
entry-denies S (Definition name type body) left h = rejected-denies S (Definition name type body) (define_of S name type body left).0 h
entry-denies S (FamilyOf f) left h = tt
entry-denies S (EliminatorAt n m) left h = tt
entry-denies S (AxiomKAt i m) left h = tt

pub settled-own : (r : ℕ → ℕ) (e : Entry) → entry_own_name (renumbered_entry r e) ≡ entry_own_name e
settled-own r (Definition name type body) = refl
settled-own r (FamilyOf f) = refl
settled-own r (EliminatorAt n m) = refl
settled-own r (AxiomKAt i m) = refl

with-denies : (enter : Entering) → EntersOthers enter → EntersOthers (enter_with enter)
with-denies enter h S d left other =
    next-denies (enter_all enter S (mentioned d) left) (λ T rest. enter_entry T (renumbered_entry (settled_number T d.base d.names) d.entry) rest)
    (all-denies enter h S (mentioned d) left)
    (λ T rest. entry-denies T (renumbered_entry (settled_number T d.base d.names) d.entry) rest
    (transport IsOther (sym (settled-own (settled_number T d.base d.names) d.entry)) other))

chain-denies : (chain : ℕ) → EntersOthers (enter_chain chain)
chain-denies zero = with-denies (λ T other rest. answers (Err (Halts Deep)) rest) (λ S d left h. tt)
chain-denies (suc chain) = with-denies (enter_chain chain) (chain-denies chain)

pub needed-denies : (S : Signature) (mentions : List Mention) (left : ℕ) → DeniesOthers (enter_all enter_needed S mentions left).0
needed-denies S mentions left = all-denies enter_needed (chain-denies longest_chain) S mentions left
