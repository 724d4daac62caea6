use Rattle.theory.proofs.Pushing.{first_entries_well_formed}
use Rattle.theory.proofs.signature_laws.first_entries_are_well_formed.Goals as goal

pub returns : goal.returns
returns c = first_entries_well_formed
