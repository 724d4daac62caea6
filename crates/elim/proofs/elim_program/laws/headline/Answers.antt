use Rattle.elim.proofs.elim_program.OutputInLine.{headline}
use Rattle.elim.proofs.elim_program.laws.headline.Goals as goal

pub returns : goal.returns
returns c = headline
