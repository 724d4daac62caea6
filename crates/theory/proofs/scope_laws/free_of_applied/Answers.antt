use Rattle.theory.proofs.Scopes.{free_of-applied}
use Rattle.theory.proofs.scope_laws.free_of_applied.Goals as goal

pub returns : goal.returns
returns c = free_of-applied
