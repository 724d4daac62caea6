use Rattle.family_check.proofs.ScopedEntering.{declare-settles}
use Rattle.family_check.proofs.laws.declare_keeps_settled.Goals as goal

pub returns : goal.returns
returns c = declare-settles
