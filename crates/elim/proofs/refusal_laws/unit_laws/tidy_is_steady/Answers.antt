use Rattle.elim.proofs.refusal_laws.unit_laws.Reducing.{tidy-steady}
use Rattle.elim.proofs.refusal_laws.unit_laws.tidy_is_steady.Goals as goal

pub returns : goal.returns
returns c = tidy-steady
