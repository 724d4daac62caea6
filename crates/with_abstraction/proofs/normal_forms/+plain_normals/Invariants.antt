use Rattle.std.proofs.Common.{length}
use Rattle.with_abstraction.proofs.normal_forms.+plain_normals.Given as goal

abbrev pub decreases-plain_normals : goal.decreases-plain_normals
decreases-plain_normals l = length l.types.now
