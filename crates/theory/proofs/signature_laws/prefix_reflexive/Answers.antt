use Rattle.theory.proofs.Pushing.{prefix_reflexive}
use Rattle.theory.proofs.signature_laws.prefix_reflexive.Goals as goal

pub returns : goal.returns
returns c = prefix_reflexive
