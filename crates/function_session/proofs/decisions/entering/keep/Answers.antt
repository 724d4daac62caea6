use Rattle.function_session.proofs.EnterableDecisions.{decision-enters}
use Rattle.function_session.proofs.decisions.entering.keep.Goals as goal

pub enter-requires-clause-enterable : goal.enter-requires-clause-enterable
enter-requires-clause-enterable c =
    decision-enters c.args.sig.now c.args.decisions.now.items c.args.named.now c.args.known.now c.requires.known c.requires.ready c.requires.held
    c.requires.plain
