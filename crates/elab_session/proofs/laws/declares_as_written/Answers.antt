use Rattle.elab_session.proofs.Written.{declares-written}
use Rattle.elab_session.proofs.laws.declares_as_written.Goals as goal

pub returns : goal.returns
returns c = declares-written
