use Rattle.theory.proofs.SortLevels.{sorts_of_subst}
use Rattle.theory.proofs.term_laws.sorts_of_subst.Goals as goal

pub returns : goal.returns
returns c = sorts_of_subst
