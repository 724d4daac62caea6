use Rattle.kernel_reduce.proofs.DerivationScopes.{typed_context-scoped}
use Rattle.kernel_reduce.proofs.laws.typed_context_scoped.Goals as goal

pub returns : goal.returns
returns c = typed_context-scoped
