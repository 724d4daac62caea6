use Rattle.tele_eq.proofs.ScopeLaws.{scoped_reflexivities}
use Rattle.tele_eq.proofs.scope_laws.scoped_reflexivities.Goals as goal

pub returns : goal.returns
returns c = scoped_reflexivities
