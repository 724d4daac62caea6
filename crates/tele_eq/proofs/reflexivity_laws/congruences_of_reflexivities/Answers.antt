use Rattle.tele_eq.proofs.ReflexivityLaws.{congruences_of_reflexivities}
use Rattle.tele_eq.proofs.reflexivity_laws.congruences_of_reflexivities.Goals as goal

pub returns : goal.returns
returns c = congruences_of_reflexivities
