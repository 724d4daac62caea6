use Rattle.std.proofs.Common.{length}
use Rattle.elim.proofs.elim_program.counts.+all_counted.Given as goal

abbrev pub decreases-all_counted : goal.decreases-all_counted
decreases-all_counted l = length l.lines.now
