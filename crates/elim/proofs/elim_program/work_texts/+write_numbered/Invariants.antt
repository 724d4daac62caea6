use Rattle.std.proofs.Common.{length}
use Rattle.elim.proofs.elim_program.work_texts.+write_numbered.Given as goal

abbrev pub decreases-write_numbered : goal.decreases-write_numbered
decreases-write_numbered l = length l.text.now
