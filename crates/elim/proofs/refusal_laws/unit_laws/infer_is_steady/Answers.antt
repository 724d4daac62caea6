use Rattle.elim.proofs.refusal_laws.unit_laws.Checking.{infer-steady}
use Rattle.elim.proofs.refusal_laws.unit_laws.infer_is_steady.Goals as goal

pub returns : goal.returns
returns c = infer-steady
