use Rattle.std.proofs.Common.{length}
use Rattle.elim.proofs.program_texts.refused_functions.+write_failing_calls.Given as goal

abbrev pub decreases-write_failing_calls : goal.decreases-write_failing_calls
decreases-write_failing_calls l = length l.calls.now
