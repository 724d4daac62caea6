use Rattle.elim.proofs.refusal_laws.unit_laws.Checking.{infer_sort-steady}
use Rattle.elim.proofs.refusal_laws.unit_laws.infer_sort_is_steady.Goals as goal

pub returns : goal.returns
returns c = infer_sort-steady
