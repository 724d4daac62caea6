use Rattle.theory.proofs.Widening.{prefix_keeps}
use Rattle.theory.proofs.ScopedTerms.{keeps-numbers, scoped_context-wider}
use Rattle.theory.proofs.signature_scope_laws.scoped_contexts_over_longer.Goals as goal

pub returns : goal.returns
returns c = λ S T h G k. scoped_context-wider (keeps-numbers (prefix_keeps h)) G k
