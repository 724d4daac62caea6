use Rattle.kernel_reduce.proofs.ComparisonLaws.{subtype-is_below}
use Rattle.kernel_reduce.proofs.laws.subtype_is_below.Goals as goal

pub returns : goal.returns
returns c = subtype-is_below
