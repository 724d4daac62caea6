use Rattle.theory.proofs.ScopedTypes.{axiom_k_type_closed}
use Rattle.theory.proofs.scope_laws.axiom_k_type_closed.Goals as goal

pub returns : goal.returns
returns c = axiom_k_type_closed
