use Rattle.tele_eq.proofs.ScopeLaws.{scoped_equations}
use Rattle.tele_eq.proofs.scope_laws.scoped_equations.Goals as goal

pub returns : goal.returns
returns c = scoped_equations
