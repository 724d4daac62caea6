use Rattle.tele_eq.proofs.ScopeLaws.{scoped_elimination}
use Rattle.tele_eq.proofs.scope_laws.scoped_elimination.Goals as goal

pub returns : goal.returns
returns c = scoped_elimination
