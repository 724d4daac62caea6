use Rattle.unification.proofs.SolutionLaws.{run-unifies}
use Rattle.unification.proofs.solution_laws.run_unifies.Goals as goal

pub returns : goal.returns
returns c = run-unifies
