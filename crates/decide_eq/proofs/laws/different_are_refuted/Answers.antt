use Rattle.decide_eq.proofs.Computing.{different-are-refuted}
use Rattle.decide_eq.proofs.laws.different_are_refuted.Goals as goal

pub returns : goal.returns
returns c = different-are-refuted
