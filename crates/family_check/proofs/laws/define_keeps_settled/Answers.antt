use Rattle.family_check.proofs.ScopedEntering.{define-settles}
use Rattle.family_check.proofs.laws.define_keeps_settled.Goals as goal

pub returns : goal.returns
returns c = define-settles
