use Rattle.kernel_reduce.proofs.ReductionLaws.{normal-spends}
use Rattle.kernel_reduce.proofs.laws.normal_spends.Goals as goal

pub returns : goal.returns
returns c = normal-spends
