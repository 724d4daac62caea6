use Rattle.unification.proofs.RunProperties.{solution-is_whole}
use Rattle.unification.proofs.run_laws.solution_is_whole.Goals as goal

pub returns : goal.returns
returns c = solution-is_whole
