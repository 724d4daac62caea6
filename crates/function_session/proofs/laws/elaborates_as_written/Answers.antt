use Rattle.function_session.proofs.Written.{elaborates-written}
use Rattle.function_session.proofs.laws.elaborates_as_written.Goals as goal

pub returns : goal.returns
returns c = elaborates-written
