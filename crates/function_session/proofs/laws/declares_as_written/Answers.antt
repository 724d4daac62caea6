use Rattle.function_session.proofs.HeldDecisions.{declares-written}
use Rattle.function_session.proofs.laws.declares_as_written.Goals as goal

pub returns : goal.returns
returns c = declares-written
