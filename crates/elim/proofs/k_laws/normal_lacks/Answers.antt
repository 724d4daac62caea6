use Rattle.elim.proofs.k_laws.Stated.{normal-lacks}
use Rattle.elim.proofs.k_laws.normal_lacks.Goals as goal

pub returns : goal.returns
returns c = normal-lacks
