use Rattle.elab_session.proofs.PreludeReady.{prelude-ready}
use Rattle.tree_cases.proofs.running.lines_of.Goals as goal

pub loop-d-init : goal.loop-d-init
loop-d-init c = prelude-ready c.in_ok-sig.sig _ c.in_ok-sig.ensures.ok
