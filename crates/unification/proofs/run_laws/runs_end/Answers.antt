use Rattle.unification.proofs.RunLaws.{runs-end}
use Rattle.unification.proofs.run_laws.runs_end.Goals as goal

pub returns : goal.returns
returns c = runs-end
