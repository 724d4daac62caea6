use Rattle.kernel_reduce.proofs.ComparisonLaws.{convertible-converts}
use Rattle.kernel_reduce.proofs.laws.convertible_converts.Goals as goal

pub returns : goal.returns
returns c = convertible-converts
