use Rattle.elim.proofs.refusal_laws.unit_laws.Entering.{declare-steady}
use Rattle.elim.proofs.refusal_laws.unit_laws.declare_is_steady.Goals as goal

pub returns : goal.returns
returns c = declare-steady
