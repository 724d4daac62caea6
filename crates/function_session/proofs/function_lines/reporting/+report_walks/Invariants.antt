use Rattle.std.proofs.Common.{length}
use Rattle.function_session.proofs.function_lines.reporting.+report_walks.Given as goal

abbrev pub decreases-report_walks : goal.decreases-report_walks
decreases-report_walks l = length l.walks.now
