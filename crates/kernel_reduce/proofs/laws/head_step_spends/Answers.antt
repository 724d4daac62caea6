use Rattle.kernel_reduce.proofs.ReductionLaws.{head_step-spends}
use Rattle.kernel_reduce.proofs.laws.head_step_spends.Goals as goal

pub returns : goal.returns
returns c = head_step-spends
