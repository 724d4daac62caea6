use Rattle.theory.proofs.StepSorts.{sorts_of_step}
use Rattle.theory.proofs.sort_laws.sorts_of_step.Goals as goal

pub returns : goal.returns
returns c = sorts_of_step
