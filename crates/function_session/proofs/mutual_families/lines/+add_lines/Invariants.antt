use Rattle.std.proofs.Common.{length}
use Rattle.function_session.proofs.mutual_families.lines.+add_lines.Given as goal

abbrev pub decreases-add_lines : goal.decreases-add_lines
decreases-add_lines l = length l.cons.now
