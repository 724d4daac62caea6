use Rattle.elim.proofs.refusal_laws.unit_laws.Entering.{instance-steady}
use Rattle.elim.proofs.refusal_laws.unit_laws.instance_is_steady.Goals as goal

pub returns : goal.returns
returns c = instance-steady
