use Rattle.theory.proofs.TermSorts.{sorts_of_symbol_type}
use Rattle.theory.proofs.sort_laws.sorts_of_symbol_type.Goals as goal

pub returns : goal.returns
returns c = sorts_of_symbol_type
