use Rattle.height_laws.proofs.TelescopicJ.{transport_is_high}
use Rattle.height_laws.proofs.laws.transport_is_high.Goals as goal

pub returns : goal.returns
returns c = transport_is_high
