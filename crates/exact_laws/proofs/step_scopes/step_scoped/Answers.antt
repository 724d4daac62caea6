use Rattle.exact_laws.proofs.step_scopes.AllDrafts.{step-scoped}
use Rattle.exact_laws.proofs.step_scopes.step_scoped.Goals as goal

pub returns : goal.returns
returns c = step-scoped
