use Rattle.theory.proofs.SortLevels.{sorts_of_lift}
use Rattle.theory.proofs.term_laws.sorts_of_lift.Goals as goal

pub returns : goal.returns
returns c = sorts_of_lift
