use Rattle.elab_session.proofs.Written.{declare-extends}
use Rattle.elab_session.proofs.laws.declare_extends.Goals as goal

pub returns : goal.returns
returns c = declare-extends
