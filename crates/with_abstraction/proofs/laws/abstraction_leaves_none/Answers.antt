use Rattle.with_abstraction.proofs.LeftNone.{abstraction-leaves_none}
use Rattle.with_abstraction.proofs.laws.abstraction_leaves_none.Goals as goal

pub returns : goal.returns
returns c = abstraction-leaves_none
