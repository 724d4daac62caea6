use Rattle.family_check.proofs.Soundness.{declare-keeps}
use Rattle.family_check.proofs.laws.declare_keeps_well_formed.Goals as goal

pub returns : goal.returns
returns c = declare-keeps
