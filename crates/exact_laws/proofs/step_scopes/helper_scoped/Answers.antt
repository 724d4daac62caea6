use Rattle.exact_laws.proofs.step_scopes.AllDrafts.{helper-scoped}
use Rattle.exact_laws.proofs.step_scopes.helper_scoped.Goals as goal

pub returns : goal.returns
returns c = helper-scoped
