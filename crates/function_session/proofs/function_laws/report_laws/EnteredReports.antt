-- The report on a candidate that enters, or does not, is the one that is meant: a rejected entry is known by its name.
use Rattle.std.proofs.Common.{◌≡◌, ℕ, Bool, true, false, cond, bytes_eq, List, Result, Ok, Err, refl, ap, ◌∙◌, subst as transport}
use Rattle.std.proofs.lemmas.Slice.Eq.{bytes_eq-Decides}
use Rattle.theory.specs.Terms.{Term}
use Rattle.theory.specs.Signatures.{Signature, Entry}
use Rattle.theory.specs.Signatures.Entry.{AxiomKAt, Definition, EliminatorAt, FamilyOf}
use Rattle.core_terms.specs.Answers.{and_next}
use Rattle.core_sig.specs.Drafts.{Draft}
use Rattle.core_sig.specs.Settling.{renumbered_entry, settled_number}
use Rattle.family_check.specs.Entering.{Entered, define_of}
use Rattle.family_check.specs.Outcomes.{BadFamily, Denied, Duplicate, FamilyStop, NotPositive, Stopped, TooLarge}
use Rattle.tree_translation.specs.Plans.{Plan}
use Rattle.clause_reports.specs.DraftEntering.{enter_all, enter_entry, enter_needed, mentioned}
use Rattle.clause_reports.specs.ProofWalks.{Proof}
use Rattle.clause_reports.specs.Reports as pure
use Rattle.clause_reports.specs.Reports.{Reference, Reported, on_candidate}
use Rattle.clause_reports.specs.Stops.{Halts, Rejected, Rejection, ReportStop, Reporting, Stuck, answers, or_rejected}
use Rattle.drafts.specs.draft_entering.Depths.{entry_own_name, own_name}
use Rattle.clause_lines.specs.CodeReports.{entering_made, in_plan, on_entered, shadowed_made}
use Rattle.clause_lines.proofs.NameMarks.{IsOther, mark_after}
use Rattle.clause_lines.proofs.OtherDenials.{DeniesOthers, needed-denies, settled-own}

-- the entry that is rejected has this name
abbrev DeniesOwn : {A : Type 0} → List ℕ → Result A ReportStop → Type 0
DeniesOwn name (Ok a) = Unit {0}
DeniesOwn name (Err (Halts e)) = Unit {0}
DeniesOwn name (Err (Stuck context left right why)) = Unit {0}
DeniesOwn name (Err (Rejected r)) = r.entry ≡ name

definition-denies : (S : Signature) (name : List ℕ) (type body : Term) (r : Result Entered FamilyStop) → DeniesOwn name (or_rejected S (Definition name type body) r)
definition-denies S name type body (Ok e) = tt
definition-denies S name type body (Err (Stopped stop)) = tt
definition-denies S name type body (Err (Denied site d)) = refl
definition-denies S name type body (Err (NotPositive n k)) = tt
definition-denies S name type body (Err (TooLarge n k)) = tt
definition-denies S name type body (Err BadFamily) = tt
definition-denies S name type body (Err Duplicate) = tt

entry-denies : (S : Signature) (e : Entry) (left : ℕ) → DeniesOwn (entry_own_name e) (enter_entry S e left).0
entry-denies S (Definition name type body) left = definition-denies S name type body (define_of S name type body left).0
entry-denies S (FamilyOf f) left = tt
entry-denies S (EliminatorAt n m) left = tt
entry-denies S (AxiomKAt i m) left = tt

is-denied : (name other : List ℕ) (b : Bool) → bytes_eq other name ≡ b → mark_after 0 name ≡ 99 → IsOther other → b ≡ false
is-denied name other false is marked h = refl
is-denied name other true is marked h = absurd (h (ap (mark_after 0) ((bytes_eq-Decides other name).0 is) ∙ marked))

module _ (S : Signature) (plan : Plan) (c : Reference) (proof : Proof)
    (same : (r : Rejection) (left : ℕ) → shadowed_made S (in_plan plan c) proof (Rejected r) left ≡ pure.shadowed S plan c proof r left) where
  entered-same : (name : List ℕ) (r : Result Entered ReportStop) (left : ℕ) → DeniesOwn name r
      → on_entered S (in_plan plan c) proof name r left ≡ on_candidate S plan c proof r left
  entered-same name (Ok e) left h = refl
  entered-same name (Err (Halts e)) left h = refl
  entered-same name (Err (Stuck context u v why)) left h = refl
  entered-same name (Err (Rejected r)) left h =
      ap (λ b. cond {A = Reporting Reported} b (shadowed_made S (in_plan plan c) proof (Rejected r) left) (answers (Err (Rejected r)) left))
      ((bytes_eq-Decides r.entry name).1 h)
      ∙ same r left

  needed-same : (name : List ℕ) → mark_after 0 name ≡ 99 → (first : Reporting Signature) → DeniesOthers first.0 → (go : Signature → ℕ → Reporting Entered)
      → ((T : Signature) (rest : ℕ) → DeniesOwn name (go T rest).0)
      → on_entered S (in_plan plan c) proof name (and_next first go).0 (and_next first go).1
      ≡ and_next first (λ T rest. on_candidate S plan c proof (go T rest).0 (go T rest).1)
  needed-same name marked (Ok T, left) others go own = entered-same name (go T left).0 (go T left).1 (own T left)
  needed-same name marked (Err (Halts e), left) others go own = refl
  needed-same name marked (Err (Stuck context u v why), left) others go own = refl
  needed-same name marked (Err (Rejected r), left) others go own =
      ap (λ b. cond {A = Reporting Reported} b (shadowed_made S (in_plan plan c) proof (Rejected r) left) (answers (Err (Rejected r)) left))
      (is-denied name r.entry (bytes_eq r.entry name) refl marked others)

  pub entering-same : (d : Draft) (left : ℕ) → mark_after 0 (own_name d) ≡ 99
      → entering_made S (in_plan plan c) proof d left ≡ pure.with_candidate S plan c proof d left
  unfolding entering_made
  entering-same d left marked =
      needed-same (own_name d) marked (enter_all enter_needed S (mentioned d) left) (needed-denies S (mentioned d) left)
      (λ T rest. enter_entry T (renumbered_entry (settled_number T d.base d.names) d.entry) rest)
      (λ T rest.
      transport (λ name. DeniesOwn name (enter_entry T (renumbered_entry (settled_number T d.base d.names) d.entry) rest).0)
      (settled-own (settled_number T d.base d.names) d.entry)
      (entry-denies T (renumbered_entry (settled_number T d.base d.names) d.entry) rest))
