use Rattle.elim.proofs.elim_program.WorkCounts.{work_counts_output}
use Rattle.elim.proofs.elim_program.laws.work_counts_output.Goals as goal

pub returns : goal.returns
returns c = work_counts_output
