use Rattle.theory.proofs.Pushing.{so_far_typed}
use Rattle.theory.proofs.signature_laws.so_far_is_typed.Goals as goal

pub returns : goal.returns
returns c = so_far_typed
