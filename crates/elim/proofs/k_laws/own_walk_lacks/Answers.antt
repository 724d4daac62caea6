use Rattle.elim.proofs.k_laws.Stated.{walk-lacks}
use Rattle.elim.proofs.k_laws.own_walk_lacks.Goals as goal

pub returns : goal.returns
returns c = walk-lacks
