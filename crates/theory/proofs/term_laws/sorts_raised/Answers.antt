use Rattle.theory.proofs.SortLevels.{sorts_raised}
use Rattle.theory.proofs.term_laws.sorts_raised.Goals as goal

pub returns : goal.returns
returns c = sorts_raised
