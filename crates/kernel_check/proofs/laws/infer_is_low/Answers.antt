use Rattle.kernel_check.proofs.AnswerHeights.{infer-is_low}
use Rattle.kernel_check.proofs.laws.infer_is_low.Goals as goal

pub returns : goal.returns
returns c = infer-is_low
