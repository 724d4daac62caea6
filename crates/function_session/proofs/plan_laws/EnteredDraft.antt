-- A draft that enters is a definition then.
use Rattle.std.proofs.Common.{◌≡◌, ℕ, Ok, Err, IfOk, List, refl, sym, subst as transport}
use Rattle.theory.specs.Terms.{Term}
use Rattle.theory.specs.Signatures.{Signature, Entry}
use Rattle.theory.specs.Signatures.Entry.{AxiomKAt, Definition, EliminatorAt, FamilyOf}
use Rattle.core_sig.specs.Drafts.{Draft}
use Rattle.core_sig.specs.Settling.{renumbered_entry, settled_number}
use Rattle.core_terms.proofs.Answers.{Answers, and_next-has}
use Rattle.family_check.specs.Entering.{Entered, define_of}
use Rattle.family_check.specs.Outcomes.{Outcome}
use Rattle.clause_reports.specs.DraftEntering.{enter_all, enter_draft_of, enter_entry, enter_needed, mentioned}
use Rattle.clause_reports.proofs.Keeping.{rejected-has, any}
use Rattle.drafts.specs.draft_entering.Conditions.{IsDefined}
use Rattle.drafts.proofs.draft_entering.Entered.{define-pushed}
use Rattle.drafts.proofs.draft_entering.Longer.{pushed-defined}
use Rattle.tree_translation.specs.Laws.{name_in, name_of}

abbrev HasIn : List ℕ → Entered → Type 0
HasIn name e = IsDefined e.signature name

define-defines : (S : Signature) (name : List ℕ) (type body : Term) (left : ℕ) → IfOk (define_of S name type body left).0 (HasIn name)
define-defines S name type body left = by (define_of S name type body left) refl
  where
    by : (o : Outcome Entered) → define_of S name type body left ≡ o → IfOk o.0 (HasIn name)
    by (Ok e, rest) is =
        let d = define-pushed S e.signature name type body left e.number rest (sym is) in
        transport (λ T. IsDefined T name) (sym d.pushed_on) (pushed-defined S name type body d.new)
    by (Err x, rest) is = tt

pub entry-defines : (S : Signature) (e : Entry) (left : ℕ) → Answers (HasIn (name_in e)) (enter_entry S e left)
entry-defines S (Definition name type body) left =
    rejected-has (HasIn name) S (Definition name type body) (define_of S name type body left).0 (define-defines S name type body left)
entry-defines S (FamilyOf f) left = tt
entry-defines S (EliminatorAt n m) left = tt
entry-defines S (AxiomKAt i m) left = tt

pub renumbered-name : (r : ℕ → ℕ) (e : Entry) → name_in (renumbered_entry r e) ≡ name_in e
renumbered-name r (Definition name type body) = refl
renumbered-name r (FamilyOf f) = refl
renumbered-name r (EliminatorAt n m) = refl
renumbered-name r (AxiomKAt i m) = refl

-- the name of the draft is that of a definition
pub draft-defined : (S : Signature) (d : Draft) (left : ℕ) → IfOk (enter_draft_of S d left).0 (λ e. IsDefined e.signature (name_of d))
draft-defined S d left =
    and_next-has (λ T. Unit {0}) (HasIn (name_of d)) (enter_all enter_needed S (mentioned d) left) _ (any (enter_all enter_needed S (mentioned d) left).0)
    (λ T rest u.
    transport (λ name. Answers (HasIn name) (enter_entry T (renumbered_entry (settled_number T d.base d.names) d.entry) rest))
    (renumbered-name (settled_number T d.base d.names) d.entry)
    (entry-defines T (renumbered_entry (settled_number T d.base d.names) d.entry) rest))
