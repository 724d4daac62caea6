use Rattle.unification.proofs.TurnScopes.{turn-scoped}
use Rattle.unification.proofs.scope_laws.turn_scoped.Goals as goal

pub returns : goal.returns
returns c = turn-scoped
