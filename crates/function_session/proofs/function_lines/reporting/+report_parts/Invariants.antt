use Rattle.std.proofs.Common.{length}
use Rattle.function_session.proofs.function_lines.reporting.+report_parts.Given as goal

abbrev pub decreases-report_parts : goal.decreases-report_parts
decreases-report_parts l = length l.parts.now
