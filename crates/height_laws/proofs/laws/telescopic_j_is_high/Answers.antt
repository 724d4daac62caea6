use Rattle.height_laws.proofs.TelescopicJ.{telescopic_j_is_high}
use Rattle.height_laws.proofs.laws.telescopic_j_is_high.Goals as goal

pub returns : goal.returns
returns c = telescopic_j_is_high
