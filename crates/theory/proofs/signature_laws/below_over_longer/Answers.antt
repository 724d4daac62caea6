use Rattle.theory.proofs.Widening.{prefix_carries}
use Rattle.theory.proofs.Carrying.{below-carried}
use Rattle.theory.proofs.signature_laws.below_over_longer.Goals as goal

pub returns : goal.returns
returns c = λ S T h a b le. below-carried (prefix_carries h) le
