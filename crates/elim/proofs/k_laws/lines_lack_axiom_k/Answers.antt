use Rattle.elim.proofs.k_laws.Declarations.{lines-lack}
use Rattle.elim.proofs.k_laws.lines_lack_axiom_k.Goals as goal

pub returns : goal.returns
returns c = lines-lack
