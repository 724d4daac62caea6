use Rattle.mutual_pack.proofs.Positive.{packed-is-positive}
use Rattle.mutual_pack.proofs.laws.packed_is_positive.Goals as goal

pub returns : goal.returns
returns c = packed-is-positive
