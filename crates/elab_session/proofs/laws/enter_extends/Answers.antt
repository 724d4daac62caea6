use Rattle.elab_session.proofs.Entered.{enter-extends}
use Rattle.elab_session.proofs.laws.enter_extends.Goals as goal

pub returns : goal.returns
returns c = enter-extends
