use Rattle.kernel_check.proofs.AnswerHeights.{check-is_low}
use Rattle.kernel_check.proofs.laws.check_is_low.Goals as goal

pub returns : goal.returns
returns c = check-is_low
