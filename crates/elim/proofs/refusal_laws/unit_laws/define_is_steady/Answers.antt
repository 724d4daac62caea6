use Rattle.elim.proofs.refusal_laws.unit_laws.Entering.{define-steady}
use Rattle.elim.proofs.refusal_laws.unit_laws.define_is_steady.Goals as goal

pub returns : goal.returns
returns c = define-steady
