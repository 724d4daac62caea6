use Rattle.elim.proofs.refusal_laws.Declarations.{declaration-is_caused}
use Rattle.elim.proofs.refusal_laws.declaration_is_caused.Goals as goal

pub returns : goal.returns
returns c = declaration-is_caused
