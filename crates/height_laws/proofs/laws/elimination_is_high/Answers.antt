use Rattle.height_laws.proofs.TelescopicJ.{elimination_is_high}
use Rattle.height_laws.proofs.laws.elimination_is_high.Goals as goal

pub returns : goal.returns
returns c = elimination_is_high
