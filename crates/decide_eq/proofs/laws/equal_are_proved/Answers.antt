use Rattle.decide_eq.proofs.Computing.{equal-are-proved}
use Rattle.decide_eq.proofs.laws.equal_are_proved.Goals as goal

pub returns : goal.returns
returns c = equal-are-proved
