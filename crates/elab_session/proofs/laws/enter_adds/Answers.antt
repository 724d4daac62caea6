use Rattle.elab_session.proofs.Adding.{enter-adds}
use Rattle.elab_session.proofs.laws.enter_adds.Goals as goal

pub returns : goal.returns
returns c = enter-adds
