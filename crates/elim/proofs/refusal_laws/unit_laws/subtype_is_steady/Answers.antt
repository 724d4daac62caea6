use Rattle.elim.proofs.refusal_laws.unit_laws.Reducing.{subtype-steady}
use Rattle.elim.proofs.refusal_laws.unit_laws.subtype_is_steady.Goals as goal

pub returns : goal.returns
returns c = subtype-steady
