use Rattle.unification.proofs.TurnLaws.{turn-follows}
use Rattle.unification.proofs.rule_laws.turn_follows.Goals as goal

pub returns : goal.returns
returns c = turn-follows
