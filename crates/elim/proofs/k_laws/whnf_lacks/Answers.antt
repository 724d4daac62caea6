use Rattle.elim.proofs.k_laws.Stated.{whnf-lacks}
use Rattle.elim.proofs.k_laws.whnf_lacks.Goals as goal

pub returns : goal.returns
returns c = whnf-lacks
