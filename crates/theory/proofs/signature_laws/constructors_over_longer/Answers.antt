use Rattle.theory.proofs.Widening.{prefix_carries}
use Rattle.theory.proofs.Carrying.{constructor-carried}
use Rattle.theory.proofs.signature_laws.constructors_over_longer.Goals as goal

pub returns : goal.returns
returns c = λ S T h n f c d. constructor-carried (prefix_carries h) d
