use Rattle.unification.proofs.TurnLaws.{turn-is_there}
use Rattle.unification.proofs.run_laws.turn_is_there.Goals as goal

pub returns : goal.returns
returns c = turn-is_there
