use Rattle.elab_session.proofs.Written.{declare-ready}
use Rattle.elab_session.proofs.laws.declare_keeps_ready.Goals as goal

pub returns : goal.returns
returns c = declare-ready
