use Rattle.theory.proofs.Weakening.{has-ren}
use Rattle.theory.proofs.typing_laws.renaming.Goals as goal

pub returns : goal.returns
returns c = λ S r G D t a typed renames context d. has-ren typed d r D renames context
