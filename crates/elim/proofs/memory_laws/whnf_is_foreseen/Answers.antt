use Rattle.elim.proofs.memory_laws.Stated.{whnf-foreseen}
use Rattle.elim.proofs.memory_laws.whnf_is_foreseen.Goals as goal

pub returns : goal.returns
returns c = whnf-foreseen
