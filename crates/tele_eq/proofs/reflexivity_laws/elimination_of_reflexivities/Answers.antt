use Rattle.tele_eq.proofs.ReflexivityLaws.{elimination_of_reflexivities}
use Rattle.tele_eq.proofs.reflexivity_laws.elimination_of_reflexivities.Goals as goal

pub returns : goal.returns
returns c = elimination_of_reflexivities
