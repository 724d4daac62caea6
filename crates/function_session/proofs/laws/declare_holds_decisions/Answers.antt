use Rattle.function_session.proofs.HeldDecisions.{holds-decisions}
use Rattle.function_session.proofs.laws.declare_holds_decisions.Goals as goal

pub returns : goal.returns
returns c = holds-decisions
