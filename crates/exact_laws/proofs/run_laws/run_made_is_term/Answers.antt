use Rattle.exact_laws.proofs.run_laws.MadeRuns.{run_made-is_term}
use Rattle.exact_laws.proofs.run_laws.run_made_is_term.Goals as goal

pub returns : goal.returns
returns c = run_made-is_term
