use Rattle.elim.proofs.refusal_laws.FunctionCauses.{meant-is_caused}
use Rattle.elim.proofs.refusal_laws.meant_is_caused.Goals as goal

pub returns : goal.returns
returns c = meant-is_caused
