use Rattle.theory.proofs.ScopedTerms.{subst-scoped}
use Rattle.theory.proofs.signature_scope_laws.subst_scoped.Goals as goal

pub returns : goal.returns
returns c = subst-scoped
