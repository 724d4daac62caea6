use Rattle.kernel_reduce.proofs.ScopedSignatures.{first_entries-scoped}
use Rattle.kernel_reduce.proofs.laws.first_entries_scoped.Goals as goal

pub returns : goal.returns
returns c = first_entries-scoped
