use Rattle.kernel_check.proofs.Soundness.{check-is_sound}
use Rattle.kernel_check.proofs.laws.check_is_sound.Goals as goal

pub returns : goal.returns
returns c = check-is_sound
