use Rattle.unification.proofs.RunProperties.{no_deletion-without_k}
use Rattle.unification.proofs.run_laws.no_deletion_without_k.Goals as goal

pub returns : goal.returns
returns c = no_deletion-without_k
