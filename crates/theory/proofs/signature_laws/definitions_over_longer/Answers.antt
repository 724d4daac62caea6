use Rattle.theory.proofs.Widening.{prefix_carries}
use Rattle.theory.proofs.Carrying.{definition-carried}
use Rattle.theory.proofs.signature_laws.definitions_over_longer.Goals as goal

pub returns : goal.returns
returns c = λ S T h type body d. definition-carried (prefix_carries h) d
