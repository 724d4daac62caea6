use Rattle.family_check.proofs.Soundness.{axiom_k-keeps}
use Rattle.family_check.proofs.laws.axiom_k_keeps_well_formed.Goals as goal

pub returns : goal.returns
returns c = axiom_k-keeps
