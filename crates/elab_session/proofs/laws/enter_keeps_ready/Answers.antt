use Rattle.elab_session.proofs.Entered.{enter-ready}
use Rattle.elab_session.proofs.laws.enter_keeps_ready.Goals as goal

pub returns : goal.returns
returns c = enter-ready
