use Rattle.theory.proofs.Widening.{prefix_carries}
use Rattle.theory.proofs.Carrying.{levels-carried}
use Rattle.theory.proofs.signature_laws.levels_over_longer.Goals as goal

pub returns : goal.returns
returns c = λ S T h level G tele levels d. levels-carried (prefix_carries h) d
