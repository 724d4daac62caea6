use Rattle.function_session.proofs.HeldDecisions.{declare-ready}
use Rattle.function_session.proofs.laws.declare_keeps_ready.Goals as goal

pub returns : goal.returns
returns c = declare-ready
