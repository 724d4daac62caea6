use Rattle.elim.proofs.elim_program.OutputInLine.{verify_headline}
use Rattle.elim.proofs.elim_program.laws.verify_headline.Goals as goal

pub returns : goal.returns
returns c = verify_headline
