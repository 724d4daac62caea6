use Rattle.elim.proofs.k_laws.Stated.{signature-lacks}
use Rattle.elim.proofs.k_laws.well_formed_lacks.Goals as goal

pub returns : goal.returns
returns c = signature-lacks
