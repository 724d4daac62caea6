use Rattle.elim.proofs.memory_laws.Stated.{infer-foreseen}
use Rattle.elim.proofs.memory_laws.infer_is_foreseen.Goals as goal

pub returns : goal.returns
returns c = infer-foreseen
