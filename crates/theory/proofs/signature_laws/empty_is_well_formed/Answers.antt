use Rattle.theory.proofs.Pushing.{empty_well_formed}
use Rattle.theory.proofs.signature_laws.empty_is_well_formed.Goals as goal

pub returns : goal.returns
returns c = empty_well_formed
