use Rattle.exact_laws.proofs.step_scopes.AllDrafts.{drafts-scoped}
use Rattle.exact_laws.proofs.step_scopes.drafts_scoped.Goals as goal

pub returns : goal.returns
returns c = drafts-scoped
