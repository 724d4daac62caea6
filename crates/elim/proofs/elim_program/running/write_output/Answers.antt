use Rattle.elim.proofs.elim_program.Following.{head_part, body_part}
use Rattle.elim.proofs.elim_program.running.write_output.Goals as goal

pub returns-in-Err-clause-follows : goal.returns-in-Err-clause-follows
returns-in-Err-clause-follows g c = head_part _ _ _ _ _ _ c.head.ensures c.in-Err.ensures.sent

pub returns-in-Err-write_whole_text-clause-follows : goal.returns-in-Err-write_whole_text-clause-follows
returns-in-Err-write_whole_text-clause-follows g c = body_part _ _ _ _ _ _ _ c.head.ensures c.in_default.ensures.sent c.in-Err-write_whole_text.ensures.written
