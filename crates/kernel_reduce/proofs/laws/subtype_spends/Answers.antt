use Rattle.kernel_reduce.proofs.ComparisonLaws.{subtype-spends}
use Rattle.kernel_reduce.proofs.laws.subtype_spends.Goals as goal

pub returns : goal.returns
returns c = subtype-spends
