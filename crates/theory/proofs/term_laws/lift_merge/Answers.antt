use Rattle.theory.proofs.Commuting.{lift_merge}
use Rattle.theory.proofs.term_laws.lift_merge.Goals as goal

pub returns : goal.returns
returns c = lift_merge
