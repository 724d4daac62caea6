use Rattle.theory.proofs.SortLevels.{sorts_before_subst}
use Rattle.theory.proofs.term_laws.sorts_before_subst.Goals as goal

pub returns : goal.returns
returns c = sorts_before_subst
