use Rattle.theory.proofs.Widening.{prefix_carries}
use Rattle.theory.proofs.Carrying.{converts-carried}
use Rattle.theory.proofs.signature_laws.conversion_over_longer.Goals as goal

pub returns : goal.returns
returns c = λ S T h t u c. converts-carried (prefix_carries h) c
