use Rattle.kernel_check.proofs.Soundness.{infer_sort-is_sound}
use Rattle.kernel_check.proofs.laws.infer_sort_is_sound.Goals as goal

pub returns : goal.returns
returns c = infer_sort-is_sound
