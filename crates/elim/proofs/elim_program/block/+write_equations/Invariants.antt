use Rattle.std.proofs.Common.{length}
use Rattle.elim.proofs.elim_program.block.+write_equations.Given as goal

abbrev pub decreases-write_equations : goal.decreases-write_equations
decreases-write_equations l = length l.lines.now
