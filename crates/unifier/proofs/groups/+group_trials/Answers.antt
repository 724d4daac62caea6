use Rattle.problems.specs.Meanings.{state_of, turn_of}
use Rattle.unifier.proofs.FoundGroups.{groups-found}
use Rattle.unifier.proofs.groups.+group_trials.Goals as goal

pub returns-in-Some-clause-answer : goal.returns-in-Some-clause-answer
returns-in-Some-clause-answer t c =
    groups-found c.args.sig.now (state_of c.args.s.now) c.args.k c.args.kernel.now.left c.group_trial.new.kernel.left (turn_of c.in-Some.turn) c.if-k-eq0.false
    (rw c.in-Some.is at c.in_ok-turn.ensures.answer)
