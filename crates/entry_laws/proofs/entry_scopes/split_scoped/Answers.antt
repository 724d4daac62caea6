use Rattle.entry_laws.proofs.entry_scopes.WholeSplits.{split_scoped}
use Rattle.entry_laws.proofs.entry_scopes.split_scoped.Goals as goal

pub returns : goal.returns
returns c = split_scoped
