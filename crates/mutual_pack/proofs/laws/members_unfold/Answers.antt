use Rattle.mutual_pack.proofs.Unfolding.{members-unfold}
use Rattle.mutual_pack.proofs.laws.members_unfold.Goals as goal

pub returns : goal.returns
returns c = members-unfold
