use Rattle.family_check.proofs.SameOffenders.{same_offender}
use Rattle.family_check.proofs.laws.same_offender.Goals as goal

pub returns : goal.returns
returns c = same_offender
