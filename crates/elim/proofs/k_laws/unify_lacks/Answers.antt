use Rattle.elim.proofs.k_laws.Stated.{unify-lacks}
use Rattle.elim.proofs.k_laws.unify_lacks.Goals as goal

pub returns : goal.returns
returns c = unify-lacks
