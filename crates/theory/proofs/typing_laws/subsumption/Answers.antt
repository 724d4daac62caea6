use Rattle.theory.proofs.Validity.{subsumption}
use Rattle.theory.proofs.typing_laws.subsumption.Goals as goal

pub returns : goal.returns
returns c = subsumption
