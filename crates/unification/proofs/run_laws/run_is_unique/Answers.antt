use Rattle.unification.proofs.RunLaws.{run-is_unique}
use Rattle.unification.proofs.run_laws.run_is_unique.Goals as goal

pub returns : goal.returns
returns c = run-is_unique
