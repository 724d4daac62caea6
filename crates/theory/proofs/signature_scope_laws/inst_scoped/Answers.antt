use Rattle.theory.proofs.ScopedTerms.{inst-scoped}
use Rattle.theory.proofs.signature_scope_laws.inst_scoped.Goals as goal

pub returns : goal.returns
returns c = inst-scoped
