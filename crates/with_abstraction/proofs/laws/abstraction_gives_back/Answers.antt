use Rattle.with_abstraction.proofs.GivenBack.{abstraction-gives_back}
use Rattle.with_abstraction.proofs.laws.abstraction_gives_back.Goals as goal

pub returns : goal.returns
returns c = abstraction-gives_back
