use Rattle.elim.proofs.refusal_laws.accepted_laws.Functions.{function-is-checked}
use Rattle.elim.proofs.refusal_laws.accepted_laws.function_is_checked.Goals as goal

pub returns : goal.returns
returns c = function-is-checked
