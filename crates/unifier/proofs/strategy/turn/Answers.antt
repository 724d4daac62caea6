use Rattle.problems.specs.Meanings.{state_of}
use Rattle.unifier.proofs.KeptTurns.{turn-kept}
use Rattle.unifier.proofs.strategy.turn.Goals as goal

pub returns-clause-kept : goal.returns-clause-kept
returns-clause-kept c =
    turn-kept c.args.sig.now (state_of c.args.s.now) c.args.kernel.now.left c.all_trials.new.kernel.left c.all_trials.result c.requires.ready c.requires.state c.all_trials.ensures.answer c.all_trials.ensures.room
