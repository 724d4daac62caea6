use Rattle.theory.proofs.Pushing.{push_is_longer}
use Rattle.theory.proofs.signature_laws.push_is_longer.Goals as goal

pub returns : goal.returns
returns c = push_is_longer
