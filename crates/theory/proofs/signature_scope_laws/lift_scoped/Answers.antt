use Rattle.theory.proofs.ScopedTerms.{lift-scoped}
use Rattle.theory.proofs.signature_scope_laws.lift_scoped.Goals as goal

pub returns : goal.returns
returns c = lift-scoped
