use Rattle.unification.proofs.ScopedEquations.{start-scoped}
use Rattle.unification.proofs.scope_laws.start_scoped.Goals as goal

pub returns : goal.returns
returns c = start-scoped
