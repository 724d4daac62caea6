use Rattle.theory.proofs.PreludeWellFormed.{prelude_is_well_formed}
use Rattle.theory.proofs.prelude_laws.prelude_is_well_formed.Goals as goal

pub returns : goal.returns
returns c = prelude_is_well_formed
