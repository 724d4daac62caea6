use Rattle.entry_laws.proofs.NameLaws.{names_differ}
use Rattle.entry_laws.proofs.laws.names_differ.Goals as goal

pub returns : goal.returns
returns c = names_differ
