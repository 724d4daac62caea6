-- The new entries of a signature are accepted one by one, where each may spend as many units as all of them together.
use Rattle.std.specs.Prelude.{ℕ, IfOk}
use Rattle.theory.specs.Signatures.{Signature}
use Rattle.core_sig.specs.Drafts.{Draft}
use Rattle.core_sig.specs.Raw.{RawFamily}
use Rattle.surface_syntax.specs.Trees as surf
use Rattle.resolve.specs.Functions.{Function}
use Rattle.family_check.specs.Entering.{declare_of}
use Rattle.tree_translation.specs.Plans.{Plan}
use Rattle.clause_reports.specs.DraftEntering.{enter_draft_of}
use Rattle.clause_reports.specs.Reports.{Reference, report_of}
use Rattle.clause_reports.specs.elaboration.Functions.{function_of}
use Rattle.function_session.specs.Declaring.{declared_in}
use Rattle.function_session.specs.Elaborating.{elaborate_of}
use Rattle.function_session.specs.Sessions.{Session}
use Rattle.elim.specs.refusal_laws.accepted_laws.Checked.{Checked}

abbrev pub FamilyIsChecked : Type 0
FamilyIsChecked = (S : Signature) (raw : RawFamily) (fuel : ℕ) → IfOk (declare_of S raw fuel).0 (λ e. Checked fuel S e.signature)

abbrev pub EnteringIsChecked : Type 0
EnteringIsChecked = (S : Signature) (d : Draft) (fuel : ℕ) → IfOk (enter_draft_of S d fuel).0 (λ e. Checked fuel S e.signature)

abbrev pub ReportIsChecked : Type 0
ReportIsChecked = (S : Signature) (plan : Plan) (c : Reference) (fuel : ℕ) → IfOk (report_of S plan c fuel).0 (λ r. Checked fuel S r.signature)

abbrev pub FunctionIsChecked : Type 0
FunctionIsChecked = (S : Signature) (f : Function) (fuel : ℕ) → IfOk (function_of S f fuel).0 (λ lines. Checked fuel S lines.signature)

-- whatever is declared, but a decision of equality
abbrev pub ElaborateIsChecked : Type 0
ElaborateIsChecked = (S : Signature) (fuel : ℕ) (d : surf.Decl) → IfOk (elaborate_of S fuel d) (λ a. Checked fuel S a.signature)

-- whatever is declared in a session
abbrev pub DeclareIsChecked : Type 0
DeclareIsChecked = (s : Session) (d : surf.Decl) → IfOk (declared_in s d) (λ a. Checked s.fuel s.signature a.signature)
