use Rattle.theory.proofs.Pushing.{push_well_formed}
use Rattle.theory.proofs.signature_laws.push_is_well_formed.Goals as goal

pub returns : goal.returns
returns c = push_well_formed
