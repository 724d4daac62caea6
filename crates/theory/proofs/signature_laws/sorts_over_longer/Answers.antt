use Rattle.theory.proofs.Widening.{prefix_carries}
use Rattle.theory.proofs.Carrying.{sort-carried}
use Rattle.theory.proofs.signature_laws.sorts_over_longer.Goals as goal

pub returns : goal.returns
returns c = λ S T h G a d. sort-carried (prefix_carries h) d
