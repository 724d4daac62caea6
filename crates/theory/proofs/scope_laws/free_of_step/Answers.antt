use Rattle.theory.proofs.StepScopes.{free_of-step}
use Rattle.theory.proofs.scope_laws.free_of_step.Goals as goal

pub returns : goal.returns
returns c = free_of-step
