use Rattle.tele_eq.proofs.ReflexivityLaws.{transport_of_reflexivities}
use Rattle.tele_eq.proofs.reflexivity_laws.transport_of_reflexivities.Goals as goal

pub returns : goal.returns
returns c = transport_of_reflexivities
