use Rattle.unification.proofs.TurnLaws.{turn-spends}
use Rattle.unification.proofs.run_laws.turn_spends.Goals as goal

pub returns : goal.returns
returns c = turn-spends
