use Rattle.decide_eq.proofs.Computing.{decision-unfolds}
use Rattle.decide_eq.proofs.laws.decision_unfolds.Goals as goal

pub returns : goal.returns
returns c = decision-unfolds
