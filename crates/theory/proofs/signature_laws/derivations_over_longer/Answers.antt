use Rattle.theory.proofs.Widening.{prefix_carries}
use Rattle.theory.proofs.Carrying.{has-carried}
use Rattle.theory.proofs.signature_laws.derivations_over_longer.Goals as goal

pub returns : goal.returns
returns c = λ S T h G t a d. has-carried (prefix_carries h) d
