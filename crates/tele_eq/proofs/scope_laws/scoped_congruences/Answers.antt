use Rattle.tele_eq.proofs.ScopeLaws.{scoped_congruences}
use Rattle.tele_eq.proofs.scope_laws.scoped_congruences.Goals as goal

pub returns : goal.returns
returns c = scoped_congruences
