use Rattle.with_abstraction.proofs.ScopedAbstractions.{abstraction-spends}
use Rattle.with_abstraction.proofs.laws.abstraction_spends.Goals as goal

pub returns : goal.returns
returns c = abstraction-spends
