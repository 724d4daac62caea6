-- Where a decision of equality is refused as rejected, the entry that is shown is one that the checker rejects.
use Rattle.std.proofs.Common.{ℕ, Bool, true, false, cond, List, Result, Ok, Err, IfErr, subst as transport}
use Rattle.theory.specs.Signatures.{Signature}
use Rattle.core_terms.specs.declared.stop.Stop.{Stop}
use Rattle.core_terms.specs.declared.stop.Stop.TheVariants as stop
use Rattle.core_sig.specs.Drafts.{Draft}
use Rattle.clause_reports.proofs.Keeping.{Any}
use Rattle.clause_reports.specs.DraftEntering.{enter_draft_of}
use Rattle.clause_reports.specs.Stops as report
use Rattle.clause_reports.specs.Stops.{ReportStop}
use Rattle.clause_reports.specs.elaboration.Refusals as function
use Rattle.clause_reports.specs.elaboration.Refusals.{Owner, or_no_report, owner_of, reporting}
use Rattle.decide_eq.specs.declared.stop.DecideStop.{DecideStop}
use Rattle.decide_eq.specs.declared.stop.DecideStop.TheVariants as undecided_as
use Rattle.drafts.specs.draft_checks.Checks.{unmarked}
use Rattle.elab_session.specs.Refusals.{stopped, unresolved}
use Rattle.elab_session.specs.declared.refusal.Refusal.{Refusal}
use Rattle.elab_session.specs.declared.refusal.Refusal.TheVariants as reason
use Rattle.resolve.specs.declared.stop.ResolveStop.{ResolveStop}
use Rattle.resolve.specs.declared.stop.ResolveStop.TheVariants as resolving
use Rattle.surface_syntax.specs.declared.tree.Word.{Word}
use Rattle.function_session.specs.Refusals.{refused_function}
use Rattle.function_session.specs.decisions.Refusals.{undecided}
use Rattle.function_session.specs.function_lines.Opened.{checked_entered, deep, draft_in}
use Rattle.function_session.proofs.RefusedDecisions.{decision-refused}
use Rattle.elim.specs.refusal_laws.Causes.{IsDenied}
use Rattle.elim.specs.refusal_laws.Laws.{RejectedDecisionIsDenied}
use Rattle.elim.proofs.refusal_laws.Chains.{IfRejected, Refuses, next-refuses}
use Rattle.elim.proofs.refusal_laws.Rejections.{entering-rejects}
use Rattle.elim.proofs.refusal_laws.WalkCauses.{splits-any}

-- a refusal as rejected is a denial
abbrev IfShown : Refusal → Type 0
IfShown (reason.Rejected entry line place context cause) =
    IsDenied (record { entry = entry; line = line; place = place; context = context; reason = cause })
IfShown _ = Unit {0}

abbrev pub IfDenied : function.Refusal → Type 0
IfDenied (function.Rejected r) = IsDenied r
IfDenied _ = Unit {0}

-- ---- the entry

report-denied : {A : Type 0} (S : Signature) (owner : Owner) (r : Result A ReportStop) → IfErr r IfRejected → IfErr (or_no_report S owner r) IfDenied
report-denied S owner (Ok a) h = tt
report-denied S owner (Err (report.Halts e)) h = tt
report-denied S owner (Err (report.Stuck context u v why)) h = tt
report-denied S owner (Err (report.Rejected r)) h = h

checked-denied : (S : Signature) (name : List ℕ) (d : Draft) (left : ℕ) → Refuses IfDenied (checked_entered S name d left)
checked-denied S name d left =
    let entered = reporting S (owner_of name 0) (enter_draft_of S d left) in
    next-refuses Any IfDenied entered _
    (splits-any IfDenied entered.0 (report-denied S (owner_of name 0) (enter_draft_of S d left).0 (entering-rejects S d left))) (λ e rest u. tt)

pub opened-denied : (S : Signature) (name : List ℕ) (d : Draft) (left : ℕ) → Refuses IfDenied (draft_in S name d left)
opened-denied S name d left = by (unmarked S)
  where
    by : (b : Bool) → Refuses IfDenied (cond b (checked_entered S name d left) (deep left))
    by true = checked-denied S name d left
    by false = tt

-- ---- the other phases

of-name : (e : ResolveStop) → IfShown (unresolved e)
of-name resolving.Memory = tt
of-name resolving.Deep = tt
of-name (resolving.UnknownName offset word) = tt
of-name (resolving.Duplicate offset word) = tt
of-name (resolving.WrongArity offset word) = tt
of-name (resolving.NotLinear offset word) = tt

of-family : (S : Signature) (n : ℕ) (family into : Word) (e : DecideStop) → IfShown (undecided S n family into e)
of-family S n family into undecided_as.Memory = tt
of-family S n family into undecided_as.Deep = tt
of-family S n family into undecided_as.NotPlainFamily = tt
of-family S n family into undecided_as.NotDecision = tt
of-family S n family into (undecided_as.NotFirstOrder c k) = tt

of-stop : (fuel : ℕ) (e : Stop) → IfShown (stopped fuel e)
of-stop fuel stop.Memory = tt
of-stop fuel stop.Fuel = tt
of-stop fuel stop.Deep = tt
of-stop fuel stop.PoolFull = tt

of-entry : (fuel : ℕ) (e : function.Refusal) → IfDenied e → IfShown (refused_function fuel e)
of-entry fuel (function.Halts e) h = of-stop fuel e
of-entry fuel (function.IllTyped part place context why) h = tt
of-entry fuel (function.WrongConstructor owner context type) h = tt
of-entry fuel (function.Stuck owner context left right why) h = tt
of-entry fuel (function.Uncovered name context vector) h = tt
of-entry fuel (function.NotAbsurd owner constructor) h = tt
of-entry fuel (function.Impossible owner context left right) h = tt
of-entry fuel (function.DotMismatch owner context written forced) h = tt
of-entry fuel (function.SelfInType owner) h = tt
of-entry fuel (function.NotSmaller calls) h = tt
of-entry fuel (function.Rejected r) h = h

-- ---- decisions

pub rejected-decision-is_denied : RejectedDecisionIsDenied
rejected-decision-is_denied s x family into r ready is =
    transport (λ answer. IfErr answer IfShown) is
    (decision-refused IfShown s.signature s.decisions s.fuel x family into (record {
      names = λ e there. of-name e;
      families = λ n m known e there. of-family s.signature n family into e;
      drafts = λ d known e there. of-stop s.fuel e;
      entries = λ name d e there.
          of-entry s.fuel e (transport (λ answer. IfErr answer IfDenied) there (opened-denied s.signature name d s.fuel));
    }))
