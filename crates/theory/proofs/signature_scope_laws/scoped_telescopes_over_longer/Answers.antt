use Rattle.theory.proofs.Widening.{prefix_keeps}
use Rattle.theory.proofs.ScopedTerms.{keeps-numbers, telescope-wider}
use Rattle.theory.proofs.signature_scope_laws.scoped_telescopes_over_longer.Goals as goal

pub returns : goal.returns
returns c = λ S T h n tele k. telescope-wider (keeps-numbers (prefix_keeps h)) n tele k
