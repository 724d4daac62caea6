use Rattle.elim.proofs.refusal_laws.FunctionCauses.{refusal-is_caused}
use Rattle.elim.proofs.refusal_laws.refusal_is_caused.Goals as goal

pub returns : goal.returns
returns c = refusal-is_caused
