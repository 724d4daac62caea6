use Rattle.kernel_reduce.proofs.ReductionLaws.{whnf-spends}
use Rattle.kernel_reduce.proofs.laws.whnf_spends.Goals as goal

pub returns : goal.returns
returns c = whnf-spends
