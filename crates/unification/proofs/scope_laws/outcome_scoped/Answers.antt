use Rattle.unification.proofs.OutcomeScopes.{outcome-scoped}
use Rattle.unification.proofs.scope_laws.outcome_scoped.Goals as goal

pub returns : goal.returns
returns c = outcome-scoped
