use Rattle.with_abstraction.proofs.ScopedAbstractions.{abstraction-scoped}
use Rattle.with_abstraction.proofs.laws.abstraction_scoped.Goals as goal

pub returns : goal.returns
returns c = abstraction-scoped
