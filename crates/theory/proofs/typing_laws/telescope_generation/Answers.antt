use Rattle.theory.proofs.Generation.{telescope_generation}
use Rattle.theory.proofs.typing_laws.telescope_generation.Goals as goal

pub returns : goal.returns
returns c = telescope_generation
