use Rattle.family_check.proofs.Spending.{axiom_k-spends}
use Rattle.family_check.proofs.laws.axiom_k_spends.Goals as goal

pub returns : goal.returns
returns c = axiom_k-spends
