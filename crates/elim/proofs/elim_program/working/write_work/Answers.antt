use Rattle.std.proofs.Common.{◌≡◌, inr}
use Rattle.elim.specs.elim_program.Runs.{nothing}
use Rattle.elim.specs.declared.program_texts.status.Status.TheVariants.{NoMemory}
use Rattle.elim.proofs.elim_program.Following.{appends-nothing}
use Rattle.elim.proofs.elim_program.working.write_work.Goals as goal

pub returns-in-Ok-clause-wrote : goal.returns-in-Ok-clause-wrote
returns-in-Ok-clause-wrote g c = λ words bytes asks. c.count_text.ensures.wrote words bytes asks c.in-Ok.ensures.ok

pub returns-in-Err-clause-wrote : goal.returns-in-Err-clause-wrote
returns-in-Err-clause-wrote g c = λ words bytes asks.
    let h = c.in-Err.ensures.memory in
    let lost : c.in-Err.status ≡ NoMemory = cc in
    nothing (appends-nothing _) (inr lost)
