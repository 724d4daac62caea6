use Rattle.theory.proofs.Substituting.{has-inst}
use Rattle.theory.proofs.typing_laws.instantiation.Goals as goal

pub returns : goal.returns
returns c = λ S s G D t a typed replaces context d. has-inst typed d s D replaces context
