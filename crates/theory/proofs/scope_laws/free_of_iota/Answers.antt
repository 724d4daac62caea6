use Rattle.theory.proofs.StepScopes.{free_of-iota}
use Rattle.theory.proofs.scope_laws.free_of_iota.Goals as goal

pub returns : goal.returns
returns c = free_of-iota
