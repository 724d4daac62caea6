use Rattle.unification.proofs.SolutionLaws.{solved-is_unified}
use Rattle.unification.proofs.solution_laws.solved_is_unified.Goals as goal

pub returns : goal.returns
returns c = solved-is_unified
