-- The entry that proves an equation has the closed equation type, since the equation is over the entries.
use Rattle.clause_reports.specs.Reports.{report_of}
use Rattle.clause_reports.proofs.Keeping.{weaker}
use Rattle.clause_reports.proofs.LineLaws.{proved-has_type}
use Rattle.function_session.specs.equation_laws.Laws.{ProvedIsTyped}
use Rattle.function_session.proofs.equation_laws.EquationScopes.{equation-is_over}

pub proved-is_typed : ProvedIsTyped
proved-is_typed before S plan c left entered ref walk =
    weaker _ _ (report_of S plan c left).0
    (λ r has n is. has n is (λ e made. equation-is_over before S plan c e entered ref walk made))
    (proved-has_type before S plan c left entered ref)
