use Rattle.kernel_reduce.proofs.ReductionLaws.{head_step-is_low}
use Rattle.kernel_reduce.proofs.laws.head_step_is_low.Goals as goal

pub returns : goal.returns
returns c = head_step-is_low
