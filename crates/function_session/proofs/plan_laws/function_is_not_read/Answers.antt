use Rattle.function_session.proofs.plan_laws.SameReduction.{not-read}
use Rattle.function_session.proofs.plan_laws.function_is_not_read.Goals as goal

pub returns : goal.returns
returns c = not-read
