use Rattle.std.proofs.Common.{length}
use Rattle.case_trees.proofs.pattern_vectors.matching.+vector_matches.Given as goal

abbrev pub decreases-vector_matches : goal.decreases-vector_matches
decreases-vector_matches l = length l.pats.now
