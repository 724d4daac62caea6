use Rattle.elim.proofs.refusal_laws.unit_laws.Entering.{axiom_k-steady}
use Rattle.elim.proofs.refusal_laws.unit_laws.axiom_k_is_steady.Goals as goal

pub returns : goal.returns
returns c = axiom_k-steady
