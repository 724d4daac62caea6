use Rattle.std.proofs.Common.{length}
use Rattle.split_terms.proofs.methods.+is_absurd.Given as goal

abbrev pub decreases-is_absurd : goal.decreases-is_absurd
decreases-is_absurd l = length l.steps.now
