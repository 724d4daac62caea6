use Rattle.theory.proofs.WellFormedness.{well_formed_typed}
use Rattle.theory.proofs.signature_laws.well_formed_is_typed.Goals as goal

pub returns : goal.returns
returns c = well_formed_typed
