use Rattle.std.proofs.Common.{length}
use Rattle.elim.proofs.program_texts.refused_functions.+write_positions.Given as goal

abbrev pub decreases-write_positions : goal.decreases-write_positions
decreases-write_positions l = length l.positions.now
