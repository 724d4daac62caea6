use Rattle.elim.proofs.memory_laws.Stated.{infer_sort-foreseen}
use Rattle.elim.proofs.memory_laws.infer_sort_is_foreseen.Goals as goal

pub returns : goal.returns
returns c = infer_sort-foreseen
