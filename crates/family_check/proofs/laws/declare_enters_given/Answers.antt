use Rattle.family_check.proofs.AsDeclared.{declare-gives}
use Rattle.family_check.proofs.laws.declare_enters_given.Goals as goal

pub returns : goal.returns
returns c = declare-gives
