use Rattle.std.proofs.Common.{length}
use Rattle.case_trees.proofs.pattern_vectors.separation.+vector_apart.Given as goal

abbrev pub decreases-vector_apart : goal.decreases-vector_apart
decreases-vector_apart l = length l.pats.now
