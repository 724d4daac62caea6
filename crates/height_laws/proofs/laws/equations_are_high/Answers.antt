use Rattle.height_laws.proofs.TelescopicJ.{equations_are_high}
use Rattle.height_laws.proofs.laws.equations_are_high.Goals as goal

pub returns : goal.returns
returns c = equations_are_high
