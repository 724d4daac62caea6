use Rattle.theory.proofs.ScopedTerms.{ren-scoped}
use Rattle.theory.proofs.signature_scope_laws.ren_scoped.Goals as goal

pub returns : goal.returns
returns c = ren-scoped
