use Rattle.std.proofs.Common.{ap, Err, ◌∙◌}
use Rattle.elim.proofs.elim_program.Following.{long_bytes, no_bytes}
use Rattle.elim.proofs.elim_program.running.take_text.Goals as goal

pub returns-in-Err-TooLong-clause-bytes : goal.returns-in-Err-TooLong-clause-bytes
returns-in-Err-TooLong-clause-bytes g c =
    long_bytes _ _ _ (c.in-Err-TooLong.is ∙ ap Err c.in-Err-TooLong.field-0-is) c.read_all.ensures.came c.read_all.ensures.too_long

pub returns-in-Err-Fault-clause-bytes : goal.returns-in-Err-Fault-clause-bytes
returns-in-Err-Fault-clause-bytes g c = no_bytes _

pub returns-in-Err-Memory-clause-bytes : goal.returns-in-Err-Memory-clause-bytes
returns-in-Err-Memory-clause-bytes g c = no_bytes _
