use Rattle.kernel_reduce.proofs.ReductionLaws.{normal-converts}
use Rattle.kernel_reduce.proofs.laws.normal_converts.Goals as goal

pub returns : goal.returns
returns c = normal-converts
