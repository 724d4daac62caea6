use Rattle.kernel_check.proofs.AnswerHeights.{infer_sort-is_sort}
use Rattle.kernel_check.proofs.laws.infer_sort_is_sort.Goals as goal

pub returns : goal.returns
returns c = infer_sort-is_sort
