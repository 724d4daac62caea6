use Rattle.elim.proofs.refusal_laws.unit_laws.Reducing.{normal-steady}
use Rattle.elim.proofs.refusal_laws.unit_laws.normal_is_steady.Goals as goal

pub returns : goal.returns
returns c = normal-steady
