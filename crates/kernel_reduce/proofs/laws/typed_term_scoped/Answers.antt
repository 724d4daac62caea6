use Rattle.kernel_reduce.proofs.DerivationScopes.{typed_term-scoped}
use Rattle.kernel_reduce.proofs.laws.typed_term_scoped.Goals as goal

pub returns : goal.returns
returns c = typed_term-scoped
