use Rattle.theory.proofs.Commuting.{lift_by_none}
use Rattle.theory.proofs.term_laws.lift_by_none.Goals as goal

pub returns : goal.returns
returns c = lift_by_none
