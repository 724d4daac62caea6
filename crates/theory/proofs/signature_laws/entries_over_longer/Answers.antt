use Rattle.theory.proofs.Widening.{prefix_keeps}
use Rattle.theory.proofs.signature_laws.entries_over_longer.Goals as goal

pub returns : goal.returns
returns c = λ S T h n e at. (prefix_keeps h).entry n e at
