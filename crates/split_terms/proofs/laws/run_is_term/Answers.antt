use Rattle.split_terms.proofs.RunsMade.{run-is}
use Rattle.split_terms.proofs.laws.run_is_term.Goals as goal

pub returns : goal.returns
returns c = run-is
