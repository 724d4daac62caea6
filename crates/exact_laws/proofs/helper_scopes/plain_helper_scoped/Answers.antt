use Rattle.exact_laws.proofs.helper_scopes.HelperDrafts.{plain_helper_scoped}
use Rattle.exact_laws.proofs.helper_scopes.plain_helper_scoped.Goals as goal

pub returns : goal.returns
returns c = plain_helper_scoped
