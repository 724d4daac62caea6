use Rattle.kernel_check.proofs.Soundness.{infer-is_sound}
use Rattle.kernel_check.proofs.laws.infer_is_sound.Goals as goal

pub returns : goal.returns
returns c = infer-is_sound
