use Rattle.theory.proofs.Pushing.{names_of_push}
use Rattle.theory.proofs.signature_laws.names_of_push.Goals as goal

pub returns : goal.returns
returns c = names_of_push
