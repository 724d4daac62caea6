use Rattle.unification.proofs.TurnLaws.{turn-falls}
use Rattle.unification.proofs.run_laws.turn_falls.Goals as goal

pub returns : goal.returns
returns c = turn-falls
