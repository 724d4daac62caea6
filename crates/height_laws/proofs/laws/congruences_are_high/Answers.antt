use Rattle.height_laws.proofs.TelescopicJ.{congruences_are_high}
use Rattle.height_laws.proofs.laws.congruences_are_high.Goals as goal

pub returns : goal.returns
returns c = congruences_are_high
