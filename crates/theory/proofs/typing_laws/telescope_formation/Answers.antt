use Rattle.theory.proofs.Generation.{telescope_formation}
use Rattle.theory.proofs.typing_laws.telescope_formation.Goals as goal

pub returns : goal.returns
returns c = telescope_formation
