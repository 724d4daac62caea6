use Rattle.elim.proofs.memory_laws.Stated.{axiom_k-foreseen}
use Rattle.elim.proofs.memory_laws.axiom_k_is_foreseen.Goals as goal

pub returns : goal.returns
returns c = axiom_k-foreseen
