use Rattle.theory.proofs.ScopedTerms.{context-scoped}
use Rattle.theory.proofs.signature_scope_laws.context_scoped.Goals as goal

pub returns : goal.returns
returns c = context-scoped
