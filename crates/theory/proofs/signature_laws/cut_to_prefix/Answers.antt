use Rattle.theory.proofs.Pushing.{cut_to_prefix}
use Rattle.theory.proofs.signature_laws.cut_to_prefix.Goals as goal

pub returns : goal.returns
returns c = cut_to_prefix
