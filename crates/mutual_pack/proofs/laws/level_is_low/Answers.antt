use Rattle.mutual_pack.proofs.PackedTypes.{level-is-low}
use Rattle.mutual_pack.proofs.laws.level_is_low.Goals as goal

pub returns : goal.returns
returns c = level-is-low
