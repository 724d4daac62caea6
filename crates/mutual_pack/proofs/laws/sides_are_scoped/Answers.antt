use Rattle.mutual_pack.proofs.ScopedEquations.{sides-are-scoped}
use Rattle.mutual_pack.proofs.laws.sides_are_scoped.Goals as goal

pub returns : goal.returns
returns c = sides-are-scoped
