use Rattle.drafts.proofs.entering_laws.OpenSteps.{axiom_k-opens}
use Rattle.drafts.proofs.entering_laws.axiom_k_keeps_open.Goals as goal

pub returns : goal.returns
returns c = axiom_k-opens
