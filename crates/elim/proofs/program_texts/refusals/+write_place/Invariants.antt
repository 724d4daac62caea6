use Rattle.std.proofs.Common.{length}
use Rattle.elim.proofs.program_texts.refusals.+write_place.Given as goal

abbrev pub decreases-write_place : goal.decreases-write_place
decreases-write_place l = length l.place.now
