use Rattle.elim.specs.program_texts.Texts.{answer_of}
use Rattle.elim.specs.elim_program.Works.{work_block}
use Rattle.elim.proofs.elim_program.Following.{no_block}
use Rattle.elim.proofs.elim_program.working.write_answer.Goals as goal

pub returns-in-Err-clause-written : goal.returns-in-Err-clause-written
returns-in-Err-clause-written g c = no_block _ c.in-Err.status (work_block c.args.work (answer_of c.args.answer)) c.in-Err.ensures
