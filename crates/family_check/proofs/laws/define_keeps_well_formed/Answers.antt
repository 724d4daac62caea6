use Rattle.family_check.proofs.Soundness.{define-keeps}
use Rattle.family_check.proofs.laws.define_keeps_well_formed.Goals as goal

pub returns : goal.returns
returns c = define-keeps
