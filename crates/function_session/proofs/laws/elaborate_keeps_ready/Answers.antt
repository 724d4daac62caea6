use Rattle.function_session.proofs.Keeping.{elaborate-ready}
use Rattle.function_session.proofs.laws.elaborate_keeps_ready.Goals as goal

pub returns : goal.returns
returns c = elaborate-ready
