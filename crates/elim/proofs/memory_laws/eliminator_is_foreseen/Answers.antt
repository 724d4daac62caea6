use Rattle.elim.proofs.memory_laws.Stated.{eliminator-foreseen}
use Rattle.elim.proofs.memory_laws.eliminator_is_foreseen.Goals as goal

pub returns : goal.returns
returns c = eliminator-foreseen
