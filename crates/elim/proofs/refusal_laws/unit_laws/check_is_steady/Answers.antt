use Rattle.elim.proofs.refusal_laws.unit_laws.Checking.{check-steady}
use Rattle.elim.proofs.refusal_laws.unit_laws.check_is_steady.Goals as goal

pub returns : goal.returns
returns c = check-steady
