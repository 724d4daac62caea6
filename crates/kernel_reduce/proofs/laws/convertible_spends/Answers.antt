use Rattle.kernel_reduce.proofs.ComparisonLaws.{convertible-spends}
use Rattle.kernel_reduce.proofs.laws.convertible_spends.Goals as goal

pub returns : goal.returns
returns c = convertible-spends
