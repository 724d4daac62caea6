-- Where the report of a clause is made as is meant.
use Rattle.std.specs.Prelude.{◌≡◌, ℕ}
use Rattle.theory.specs.Signatures.{Signature}
use Rattle.tree_translation.specs.Plans.{Plan}
use Rattle.clause_reports.specs.Reports.{Reference, report_of}
use Rattle.clause_lines.specs.CodeReports.{report_made}
use Rattle.function_session.specs.function_laws.report_laws.Reportable.{IsReportable}

-- It is made with each refusal that is meant, and with the same units.
abbrev pub ReportIsMade : Type 0
ReportIsMade = (S : Signature) (plan : Plan) (c : Reference) (left : ℕ) → IsReportable S plan c → report_made S plan c left ≡ report_of S plan c left
