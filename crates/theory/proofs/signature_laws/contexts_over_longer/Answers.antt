use Rattle.theory.proofs.Widening.{prefix_carries}
use Rattle.theory.proofs.Carrying.{context-carried}
use Rattle.theory.proofs.signature_laws.contexts_over_longer.Goals as goal

pub returns : goal.returns
returns c = λ S T h G context. context-carried (prefix_carries h) context
