use Rattle.theory.proofs.Widening.{prefix_keeps}
use Rattle.theory.proofs.ScopedTerms.{keeps-numbers, scoped-wider}
use Rattle.theory.proofs.signature_scope_laws.scoped_over_longer.Goals as goal

pub returns : goal.returns
returns c = λ S T h n t k. scoped-wider (keeps-numbers (prefix_keeps h)) k
