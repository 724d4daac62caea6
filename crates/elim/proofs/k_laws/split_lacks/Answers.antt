use Rattle.elim.proofs.k_laws.Stated.{split-lacks}
use Rattle.elim.proofs.k_laws.split_lacks.Goals as goal

pub returns : goal.returns
returns c = split-lacks
