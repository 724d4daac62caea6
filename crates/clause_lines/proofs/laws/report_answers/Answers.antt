use Rattle.clause_lines.proofs.PartsAnswered.{report-answers}
use Rattle.clause_lines.proofs.laws.report_answers.Goals as goal

pub returns : goal.returns
returns c = report-answers
