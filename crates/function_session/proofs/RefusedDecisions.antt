-- Refusals of decisions, by the phase that each comes from.
use Rattle.std.proofs.Common.{◌≡◌, ℕ, List, Result, Ok, Err, IfErr, refl}
use Rattle.theory.specs.Signatures.{Signature}
use Rattle.core_terms.specs.Answers.{and_then}
use Rattle.core_terms.specs.declared.stop.Stop.{Stop}
use Rattle.core_sig.specs.Drafts.{Draft}
use Rattle.clause_reports.specs.elaboration.Refusals as function
use Rattle.decide_eq.specs.PlainFamilies.{Known, plain_family}
use Rattle.decide_eq.specs.declared.stop.DecideStop.{DecideStop}
use Rattle.elab_session.specs.Declaring.{or_unresolved}
use Rattle.elab_session.specs.Refusals.{stopped, unresolved}
use Rattle.elab_session.specs.declared.refusal.Refusal.{Refusal}
use Rattle.resolve.specs.declared.stop.ResolveStop.{ResolveStop}
use Rattle.surface_syntax.specs.declared.tree.Word.{Word}
use Rattle.function_session.specs.Elaborating.{Elaborated}
use Rattle.function_session.specs.Refusals.{refused_function}
use Rattle.function_session.specs.decisions.Declaring.{accepted_under, declare_decision}
use Rattle.function_session.specs.decisions.Entering.{decision_entered, draft_entered, draft_for, on_draft, or_refused}
use Rattle.function_session.specs.decisions.Known.{known_into}
use Rattle.function_session.specs.decisions.Naming.{named}
use Rattle.function_session.specs.decisions.Refusals.{or_undecided, undecided}
use Rattle.function_session.specs.declared.decisions.decision.Decision.{Decision}
use Rattle.function_session.specs.declared.decisions.naming.Named.{Named}
use Rattle.function_session.specs.function_lines.Opened.{draft_in}

-- the refusals of the phases: of a name, of the family, of the draft's terms, and of the entry
pub record AreRefusals (N : Refusal → Type 0) (S : Signature) (fuel : ℕ) (x family into : Word) : Type 0 where
  pub names : (e : ResolveStop) → named S x family into ≡ Err e → N (unresolved e)
  pub families : (n m : ℕ) (known : Known) (e : DecideStop) → plain_family S n m known ≡ Err e → N (undecided S n family into e)
  pub drafts : (d : Named) (known : Known) (e : Stop) → draft_for S d known ≡ Err e → N (stopped fuel e)
  pub entries : (name : List ℕ) (d : Draft) (e : function.Refusal) → (draft_in S name d fuel).0 ≡ Err e → N (refused_function fuel e)

resolved-refused : (N : Refusal → Type 0) (r : Result Named ResolveStop) (go : Named → Result Elaborated Refusal)
    → ((e : ResolveStop) → r ≡ Err e → N (unresolved e)) → ((d : Named) → IfErr (go d) N) → IfErr (and_then (or_unresolved r) go) N
resolved-refused N (Ok d) go h k = k d
resolved-refused N (Err e) go h k = h e refl

undecided-refused : (N : Refusal → Type 0) (S : Signature) (n : ℕ) (family into : Word) (r : Result (Unit {0}) DecideStop) (end : Result Elaborated Refusal)
    → ((e : DecideStop) → r ≡ Err e → N (undecided S n family into e)) → IfErr end N → IfErr (and_then (or_undecided S n family into r) (λ u. end)) N
undecided-refused N S n family into (Ok tt) end h k = k
undecided-refused N S n family into (Err e) end h k = h e refl

accepted-refused : (N : Refusal → Type 0) (name : List ℕ) (r : Result Signature Refusal) → IfErr r N → IfErr (accepted_under name r) N
accepted-refused N name (Ok T) h = tt
accepted-refused N name (Err e) h = h

function-refused : (N : Refusal → Type 0) (fuel : ℕ) (r : Result Signature function.Refusal)
    → ((e : function.Refusal) → r ≡ Err e → N (refused_function fuel e)) → IfErr (or_refused fuel r) N
function-refused N fuel (Ok T) h = tt
function-refused N fuel (Err e) h = h e refl

draft-refused : (N : Refusal → Type 0) (S : Signature) (fuel : ℕ) (name : List ℕ) (r : Result Draft Stop)
    → ((e : Stop) → r ≡ Err e → N (stopped fuel e))
    → ((d : Draft) (e : function.Refusal) → (draft_in S name d fuel).0 ≡ Err e → N (refused_function fuel e))
    → IfErr (on_draft draft_entered S fuel name r) N
draft-refused N S fuel name (Ok d) h k = function-refused N fuel (draft_in S name d fuel).0 (k d)
draft-refused N S fuel name (Err e) h k = h e refl

pub decision-refused : (N : Refusal → Type 0) (S : Signature) (decisions : List Decision) (fuel : ℕ) (x family into : Word)
    → AreRefusals N S fuel x family into → IfErr (declare_decision draft_entered S decisions fuel x family into) N
decision-refused N S decisions fuel x family into h =
    resolved-refused N (named S x family into) _ h.names (λ d.
    let known = known_into d.into decisions in
    undecided-refused N S d.family family into (plain_family S d.family d.into known) _ (h.families d.family d.into known)
    (accepted-refused N d.name (decision_entered draft_entered S fuel d known)
    (draft-refused N S fuel d.name (draft_for S d known) (h.drafts d known) (h.entries d.name))))
