use Rattle.split_terms.proofs.RunsMade.{names-are}
use Rattle.split_terms.proofs.laws.run_names_are_these.Goals as goal

pub returns : goal.returns
returns c = names-are
