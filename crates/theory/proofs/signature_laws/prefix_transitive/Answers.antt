use Rattle.theory.proofs.Pushing.{prefix_transitive}
use Rattle.theory.proofs.signature_laws.prefix_transitive.Goals as goal

pub returns : goal.returns
returns c = prefix_transitive
