use Rattle.split_terms.proofs.SplitsMade.{split-names-are}
use Rattle.split_terms.proofs.split_laws.split_names_are_these.Goals as goal

pub returns : goal.returns
returns c = split-names-are
