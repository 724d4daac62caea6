use Rattle.elim.proofs.refusal_laws.unit_laws.Reducing.{whnf-steady}
use Rattle.elim.proofs.refusal_laws.unit_laws.whnf_is_steady.Goals as goal

pub returns : goal.returns
returns c = whnf-steady
