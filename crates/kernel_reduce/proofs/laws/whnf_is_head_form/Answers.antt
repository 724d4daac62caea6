use Rattle.kernel_reduce.proofs.ReductionLaws.{whnf-is_head_form}
use Rattle.kernel_reduce.proofs.laws.whnf_is_head_form.Goals as goal

pub returns : goal.returns
returns c = whnf-is_head_form
