use Rattle.elim.proofs.k_laws.Stated.{infer-lacks}
use Rattle.elim.proofs.k_laws.infer_lacks.Goals as goal

pub returns : goal.returns
returns c = infer-lacks
