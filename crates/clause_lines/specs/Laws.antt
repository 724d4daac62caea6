-- The line of a clause that the code answers is the line as it is defined.
use Rattle.std.specs.Prelude.{◌≡◌, ℕ, Ok, IfOk}
use Rattle.theory.specs.Signatures.{Signature, IsPrefix}
use Rattle.theory.specs.WellFormed.{IsWellFormed}
use Rattle.family_check.specs.Scopes.{HasPrelude}
use Rattle.tree_translation.specs.Plans.{Plan}
use Rattle.clause_reports.specs.Reports.{Reference, Reported, report_of}
use Rattle.clause_reports.specs.Stops.{Reporting}
use Rattle.clause_lines.specs.CodeReports.{report_made}

abbrev pub ReportAnswers : Type 0
ReportAnswers =
    (S : Signature) (plan : Plan) (c : Reference) (left rest : ℕ) (r : Reported) →
    ◌≡◌ {A = Reporting Reported} (report_made S plan c left) (Ok r, rest) → ◌≡◌ {A = Reporting Reported} (report_of S plan c left) (Ok r, rest)

-- A well-formed signature stays well formed, and keeps its entries.
abbrev pub ReportMadeKeepsWellFormed : Type 0
ReportMadeKeepsWellFormed =
    (S : Signature) (plan : Plan) (c : Reference) (left : ℕ) → IsWellFormed S → HasPrelude S →
    IfOk (report_made S plan c left).0 (λ r. IsPrefix S r.signature × IsWellFormed r.signature)
