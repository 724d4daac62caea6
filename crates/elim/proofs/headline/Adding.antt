-- Entries that are added one by one, each of a kind over those before it: what a draft brings along, and the draft.
use Rattle.std.proofs.Common.{◌≡◌, ◌≤◌, inl, inr, ℕ, zero, suc, Bool, true, false, cond, nat_lt, ◌&&◌, position, Option, Some, None, List, [], ◌∷◌, length, Result, Ok, Err, IfOk, refl, sym, ap, ◌∙◌, subst as transport, arith}
use Rattle.std.proofs.lemmas.List.{take-append-le, take_all}
use Rattle.std.proofs.lemmas.List.Elements.{Contains-append_right}
use Rattle.std.proofs.lemmas.Option.{slice_get_within}
use Rattle.std.specs.Prelude.{Contains}
use Rattle.theory.specs.Terms.{Term, top}
use Rattle.theory.specs.Eliminators.{eliminator_type}
use Rattle.theory.specs.Families.{Family}
use Rattle.theory.specs.Signatures.{AxiomKAt, Definition, EliminatorAt, Entry, FamilyOf, IsEntryAt, Signature, axiom_k_type}
use Rattle.theory.specs.WellFormed.{first_entries, pushed}
use Rattle.theory.proofs.Pushing.{entry_of-pushed}
use Rattle.core_terms.proofs.Answers.{Answers, and_next-has}
use Rattle.core_terms.specs.declared.stop.Stop.{Stop}
use Rattle.core_terms.specs.declared.stop.Stop.TheVariants.{Deep}
use Rattle.core_sig.specs.Drafts.{Draft}
use Rattle.core_sig.specs.Instances.{is_axiom_k, is_eliminator}
use Rattle.core_sig.specs.Names.{find}
use Rattle.core_sig.specs.Settling.{renumbered_entry, settled_number}
use Rattle.kernel_reduce.specs.Entries.{family_at}
use Rattle.family_check.specs.Asking.{sort_in, type_in}
use Rattle.family_check.specs.Entering.{Entered, are_new, axiom_k_of, check_definition, define_of, enter_instance, entered, instance_of, unless_there}
use Rattle.family_check.specs.Outcomes.{OfBody, OfType, Outcome}
use Rattle.family_check.proofs.Outcomes.{if_new-has}
use Rattle.tree_translation.specs.Needed.{is_found}
use Rattle.clause_reports.specs.DraftEntering.{AssumesK, Eliminates, Entering, Mention, Names, enter_all, enter_axiom_k, enter_chain, enter_draft_of, enter_eliminator, enter_entry, enter_generated, enter_mention, enter_needed, enter_with, longest_chain, mentioned, with_entry}
use Rattle.clause_reports.specs.Generated.{Generated, generated_by, generated_draft}
use Rattle.clause_reports.specs.elaboration.Refusals.{owner_of, reporting}
use Rattle.clause_reports.proofs.elaboration.Keeping.{no_report-has}
use Rattle.function_session.specs.function_lines.Opened.{checked_entered}
use Rattle.clause_reports.specs.Stops.{Halts, Reporting, answers, entering, or_halts}
use Rattle.clause_reports.proofs.Keeping.{Any, any, rejected-has, weaker}
use Rattle.drafts.specs.draft_entering.Conditions.{Extends, IsNoFamily}
use Rattle.drafts.proofs.draft_entering.Longer.{extends-on, extends-push, extends-same, generated-longer}
use Rattle.elim.specs.headline.NewEntries.{drafted_entry}

-- ---- the relation

-- a signature goes on from S with entries that are no families, each of a kind over those before it
pub data Adds (K : Signature → Entry → Type 0) (S : Signature) : Signature → Type 0 where
  nothing : Adds K S S
  one_more : (T : Signature) (e : Entry) → Adds K S T → IsNoFamily e → K T e → Adds K S (pushed T e)

pub adds-on : {K : Signature → Entry → Type 0} {S T U : Signature} → Adds K S T → Adds K T U → Adds K S U
adds-on h nothing = h
adds-on h (one_more T e k plain kind) = one_more T e (adds-on h k) plain kind

adds-extends : {K : Signature → Entry → Type 0} (S T : Signature) → Adds K S T → Extends S T
adds-extends S _ nothing = extends-same S
adds-extends S _ (one_more T e h plain kind) = extends-on S T (pushed T e) (adds-extends S T h) (extends-push T e plain)

with-entries : Signature → List Entry → Signature
with-entries S es = record { entries = es; has_k = S.has_k }

-- the first entries of a longer signature
first-pushed : (S : Signature) (e : Entry) (n : ℕ) → n ≤ length S.entries → first_entries (pushed S e) n ≡ first_entries S n
unfolding with-entries
first-pushed S e n le = ap (with-entries S) (take-append-le n S.entries (e ∷ []) le)

first-whole : (S : Signature) → first_entries S (length S.entries) ≡ S
unfolding with-entries
first-whole S = ap (with-entries S) (take_all (length S.entries) S.entries (omega arith))

-- each entry that is added is of the kind over those before it
pub added-kind : {K : Signature → Entry → Type 0} (S T : Signature) → Adds K S T → (n : ℕ) (e : Entry) → length S.entries ≤ n → IsEntryAt T n e
    → K (first_entries T n) e
added-kind S _ nothing n e low at = let within = slice_get_within S.entries n e at in absurd (omega (arith, low, within))
added-kind {K} S _ (one_more T x h plain kind) n e low at =
    elim (entry_of-pushed T x n e at) [
      | inl before ↦
          transport (λ B. K B e) (sym (first-pushed T x n (let within = slice_get_within T.entries n e before in omega (arith, within))))
          (added-kind S T h n e low before)
      | inr (place, same) ↦
          transport (λ m. K (first_entries (pushed T x) m) e) (sym place)
          (transport (λ B. K B e) (sym (first-pushed T x (length T.entries) (omega arith) ∙ first-whole T)) (transport (K T) same kind))
    ]

-- ---- elements

pub at-first : {A : Type 0} (xs : List A) (x y : A) → y ≡ x → Contains (y ∷ xs) x
at-first xs x y e = (0, omega arith, e)

pub behind : {A : Type 0} (xs : List A) (x y : A) → Contains xs x → Contains (y ∷ xs) x
behind xs x y h = Contains-append_right (y ∷ []) xs x h

-- drafts are of the kind over each signature
abbrev pub AreOfKind : (Signature → Entry → Type 0) → List Draft → Type 0
AreOfKind K drafts = (d : Draft) → Contains drafts d → (U : Signature) → K U (drafted_entry U d)

-- ---- entries

no-eliminator : (n m : ℕ) → IsNoFamily (EliminatorAt n m)
no-eliminator n m f is = cc

no-axiom_k : (i m : ℕ) → IsNoFamily (AxiomKAt i m)
no-axiom_k i m f is = cc

pub no-definition : (name : List ℕ) (type body : Term) → IsNoFamily (Definition name type body)
no-definition name type body f is = cc

-- the signature of what entered
abbrev pub AddsTo : (Signature → Entry → Type 0) → Signature → Entered → Type 0
AddsTo K S x = Adds K S x.signature

pub define-is : (S : Signature) (name : List ℕ) (type body : Term) (left : ℕ)
    → Answers (λ (x : Entered). x ≡ entered S (Definition name type body)) (define_of S name type body left)
define-is S name type body left =
    let P : Entered → Type 0 = λ x. x ≡ entered S (Definition name type body) in
    if_new-has P (are_new S (name ∷ [])) (check_definition S name type body) left (λ test.
    and_next-has Any P (sort_in S OfType [] type left) _ (any (sort_in S OfType [] type left).0) (λ sort rest u.
    and_next-has Any P (type_in S OfBody [] body type rest) _ (any (type_in S OfBody [] body type rest).0) (λ found end v. refl)))

-- the kinds of instances and of generated entries
pub record Allows (K : Signature → Entry → Type 0) : Type 0 where
  pub eliminator : (U : Signature) (n m : ℕ) → K U (EliminatorAt n m)
  pub axiom_k : (U : Signature) (i m : ℕ) → K U (AxiomKAt i m)
  pub generated : (U : Signature) (name : List ℕ) (g : Generated) (base : ℕ) (d : Draft) → generated_by U name ≡ Some g → generated_draft base g ≡ Ok d
      → K U (drafted_entry U d)

halting-is : {A : Type 0} (r : Result A Stop) → IfOk (or_halts r) (λ a. r ≡ Ok a)
halting-is (Ok a) = refl
halting-is (Err e) = tt

module _ (K : Signature → Entry → Type 0) (allows : Allows K) where
  -- an instance that is there, or a new one
  unless-adds : (S : Signature) (place : Option ℕ) (enter : ℕ → Outcome Entered) (left : ℕ) → Answers (AddsTo K S) (enter left)
      → Answers (AddsTo K S) (unless_there S place enter left)
  unless-adds S (Some n) enter left h = nothing
  unless-adds S None enter left h = h

  instance-adds : (S : Signature) (e : Entry) (fits : Bool) (type : Term) (left : ℕ) → IsNoFamily e → K S e
      → Answers (AddsTo K S) (enter_instance S e fits type left)
  instance-adds S e true type left plain kind =
      and_next-has Any (AddsTo K S) (sort_in S OfType [] type left) _ (any (sort_in S OfType [] type left).0) (λ sort rest u. one_more S e nothing plain kind)
  instance-adds S e false type left plain kind = tt

  with_entry-adds : (S : Signature) (outcome : Reporting Entered) → Answers (AddsTo K S) outcome → Answers (Adds K S) (with_entry outcome)
  with_entry-adds S outcome h = and_next-has (AddsTo K S) (Adds K S) outcome _ h (λ e rest g. g)

  enter_eliminator-adds : (S : Signature) (n m : ℕ) (f : Option Family) (left : ℕ) → Answers (Adds K S) (enter_eliminator S n m f left)
  enter_eliminator-adds S n m None left = nothing
  enter_eliminator-adds S n m (Some f) left =
      with_entry-adds S (entering S (EliminatorAt n m) (instance_of S n f m left))
      (rejected-has (AddsTo K S) S (EliminatorAt n m) (instance_of S n f m left).0
      (unless-adds S (position (is_eliminator n m) S.entries) (enter_instance S (EliminatorAt n m) (nat_lt m top) (eliminator_type n f m)) left
      (instance-adds S (EliminatorAt n m) (nat_lt m top) (eliminator_type n f m) left (no-eliminator n m) (allows.eliminator S n m))))

  enter_axiom_k-adds : (S : Signature) (i m : ℕ) (on : Bool) (left : ℕ) → Answers (Adds K S) (enter_axiom_k S i m on left)
  enter_axiom_k-adds S i m true left =
      with_entry-adds S (entering S (AxiomKAt i m) (axiom_k_of S i m left))
      (rejected-has (AddsTo K S) S (AxiomKAt i m) (axiom_k_of S i m left).0
      (unless-adds S (position (is_axiom_k i m) S.entries) (enter_instance S (AxiomKAt i m) (nat_lt i top && nat_lt m top) (axiom_k_type i m)) left
      (instance-adds S (AxiomKAt i m) (nat_lt i top && nat_lt m top) (axiom_k_type i m) left (no-axiom_k i m) (allows.axiom_k S i m))))
  enter_axiom_k-adds S i m false left = tt

  -- ---- drafts

  -- a draft whose entry is of the kind over each longer signature
  abbrev IsOfKind : Signature → Draft → Type 0
  IsOfKind S d = (U : Signature) → Extends S U → K U (drafted_entry U d)

  -- an entering by entries of the kind
  abbrev AllAdd : Entering → Type 0
  AllAdd enter = (S : Signature) (d : Draft) (left : ℕ) → IsOfKind S d → Answers (AddsTo K S) (enter S d left)

  enter_generated-adds : (enter : Entering) → AllAdd enter → (S : Signature) (name : List ℕ) (g : Option Generated) (left : ℕ) → generated_by S name ≡ g
      → Answers (Adds K S) (enter_generated enter S g left)
  enter_generated-adds enter h S name None left is = nothing
  enter_generated-adds enter h S name (Some g) left is =
      let made = generated_draft (length S.entries) g in
      and_next-has (λ (d : Draft). made ≡ Ok d) (Adds K S) (or_halts made, left) _ (halting-is made) (λ d rest e.
      with_entry-adds S (enter S d rest)
      (h S d rest (λ U longer. allows.generated U name g (length S.entries) d (generated-longer S U longer name ∙ is) e)))

  enter_mention-adds : (enter : Entering) → AllAdd enter → (S : Signature) (m : Mention) (left : ℕ) → Answers (Adds K S) (enter_mention enter S m left)
  enter_mention-adds enter h S (Eliminates n m) left = enter_eliminator-adds S n m (family_at S n) left
  enter_mention-adds enter h S (AssumesK i m) left = enter_axiom_k-adds S i m S.has_k left
  enter_mention-adds enter h S (Names name) left = by (is_found (find S name))
    where
      by : (there : Bool) → Answers (Adds K S) (cond there (answers (Ok S) left) (enter_generated enter S (generated_by S name) left))
      by true = nothing
      by false = enter_generated-adds enter h S name (generated_by S name) left refl

  enter_all-adds : (enter : Entering) → AllAdd enter → (S : Signature) (mentions : List Mention) (left : ℕ)
      → Answers (Adds K S) (enter_all enter S mentions left)
  enter_all-adds enter h S [] left = nothing
  enter_all-adds enter h S (m ∷ mentions) left =
      and_next-has (Adds K S) (Adds K S) (enter_mention enter S m left) _ (enter_mention-adds enter h S m left) (λ T rest g.
      weaker (Adds K T) (Adds K S) (enter_all enter T mentions rest).0 (λ U k. adds-on g k) (enter_all-adds enter h T mentions rest))

  enter_entry-adds : (S : Signature) (e : Entry) (left : ℕ) → K S e → Answers (AddsTo K S) (enter_entry S e left)
  enter_entry-adds S (Definition name type body) left kind =
      let e = Definition name type body in
      rejected-has (AddsTo K S) S e (define_of S name type body left).0
      (weaker (λ (x : Entered). x ≡ entered S e) (AddsTo K S) (define_of S name type body left).0
      (λ x is. transport (AddsTo K S) (sym is) (one_more S e nothing (no-definition name type body) kind)) (define-is S name type body left))
  enter_entry-adds S (FamilyOf f) left kind = tt
  enter_entry-adds S (EliminatorAt n m) left kind = tt
  enter_entry-adds S (AxiomKAt i m) left kind = tt

  enter_with-adds : (enter : Entering) → AllAdd enter → AllAdd (enter_with enter)
  enter_with-adds enter h S d left kind =
      and_next-has (Adds K S) (AddsTo K S) (enter_all enter S (mentioned d) left) _ (enter_all-adds enter h S (mentioned d) left) (λ T rest g.
      let e = renumbered_entry (settled_number T d.base d.names) d.entry in
      weaker (AddsTo K T) (AddsTo K S) (enter_entry T e rest).0 (λ x k. adds-on g k) (enter_entry-adds T e rest (kind T (adds-extends S T g))))

  enter_chain-adds : (chain : ℕ) → AllAdd (enter_chain chain)
  enter_chain-adds zero S d left kind = enter_with-adds (λ T other rest. answers (Err (Halts Deep)) rest) (λ T other rest k. tt) S d left kind
  enter_chain-adds (suc chain) S d left kind = enter_with-adds (enter_chain chain) (enter_chain-adds chain) S d left kind

  enter_needed-adds : AllAdd enter_needed
  enter_needed-adds S d left kind = enter_chain-adds longest_chain S d left kind

  pub needed-adds : (S : Signature) (mentions : List Mention) (left : ℕ) → Answers (Adds K S) (enter_all enter_needed S mentions left)
  needed-adds S mentions left = enter_all-adds enter_needed enter_needed-adds S mentions left

  pub mention-adds : (S : Signature) (m : Mention) (left : ℕ) → Answers (Adds K S) (enter_mention enter_needed S m left)
  mention-adds S m left = enter_mention-adds enter_needed enter_needed-adds S m left

  pub draft-adds : (S : Signature) (d : Draft) (left : ℕ) → IsOfKind S d → Answers (AddsTo K S) (enter_draft_of S d left)
  draft-adds S d left kind = enter_with-adds enter_needed enter_needed-adds S d left kind

  -- one draft, as it is meant to enter
  pub checked-adds : (S : Signature) (name : List ℕ) (d : Draft) (left : ℕ) → ((U : Signature) → K U (drafted_entry U d))
      → Answers (Adds K S) (checked_entered S name d left)
  checked-adds S name d left kind =
      and_next-has (AddsTo K S) (Adds K S) (reporting S (owner_of name 0) (enter_draft_of S d left)) _
      (no_report-has (AddsTo K S) S (owner_of name 0) (enter_draft_of S d left).0 (draft-adds S d left (λ U longer. kind U))) (λ e rest g. g)
