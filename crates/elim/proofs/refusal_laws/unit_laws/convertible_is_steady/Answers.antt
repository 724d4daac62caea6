use Rattle.elim.proofs.refusal_laws.unit_laws.Reducing.{convertible-steady}
use Rattle.elim.proofs.refusal_laws.unit_laws.convertible_is_steady.Goals as goal

pub returns : goal.returns
returns c = convertible-steady
