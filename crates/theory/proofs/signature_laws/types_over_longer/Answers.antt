use Rattle.theory.proofs.Widening.{prefix_keeps, type_of-wider}
use Rattle.theory.proofs.signature_laws.types_over_longer.Goals as goal

pub returns : goal.returns
returns c = λ S T h t a of. type_of-wider (prefix_keeps h) of
