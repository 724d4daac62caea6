use Rattle.elim.proofs.refusal_laws.unit_laws.Reducing.{head_step-steady}
use Rattle.elim.proofs.refusal_laws.unit_laws.head_step_is_steady.Goals as goal

pub returns : goal.returns
returns c = head_step-steady
