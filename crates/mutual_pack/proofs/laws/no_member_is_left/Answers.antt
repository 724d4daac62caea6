use Rattle.mutual_pack.proofs.PackedTypes.{no-member-is-left}
use Rattle.mutual_pack.proofs.laws.no_member_is_left.Goals as goal

pub returns : goal.returns
returns c = no-member-is-left
