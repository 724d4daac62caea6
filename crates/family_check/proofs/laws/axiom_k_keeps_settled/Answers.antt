use Rattle.family_check.proofs.ScopedEntering.{axiom_k-settles}
use Rattle.family_check.proofs.laws.axiom_k_keeps_settled.Goals as goal

pub returns : goal.returns
returns c = axiom_k-settles
