use Rattle.exact_laws.proofs.run_laws.MadeRuns.{run_names-are_these}
use Rattle.exact_laws.proofs.run_laws.run_names_are_these.Goals as goal

pub returns : goal.returns
returns c = run_names-are_these
