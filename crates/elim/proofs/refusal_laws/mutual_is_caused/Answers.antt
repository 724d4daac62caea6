use Rattle.elim.proofs.refusal_laws.MutualCauses.{mutual-is_caused}
use Rattle.elim.proofs.refusal_laws.mutual_is_caused.Goals as goal

pub returns : goal.returns
returns c = mutual-is_caused
