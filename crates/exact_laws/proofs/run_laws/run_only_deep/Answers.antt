use Rattle.exact_laws.proofs.run_laws.MadeRuns.{run-only_deep}
use Rattle.exact_laws.proofs.run_laws.run_only_deep.Goals as goal

pub returns : goal.returns
returns c = run-only_deep
