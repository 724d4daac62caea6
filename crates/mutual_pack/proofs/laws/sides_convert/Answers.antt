use Rattle.mutual_pack.proofs.EquationsConvert.{sides-convert}
use Rattle.mutual_pack.proofs.laws.sides_convert.Goals as goal

pub returns : goal.returns
returns c = sides-convert
