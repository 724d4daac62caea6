use Rattle.std.proofs.Common.{◌+◌, ◌*◌}
use Rattle.core_terms.specs.PatternMeanings.{pat_of, pats_of}
use Rattle.case_trees.specs.pattern_vectors.Meeting.{size_of, size_of_all}
use Rattle.clause_equations.proofs.shadow_vectors.vectors.+reducing.Given as goal

abbrev pub decreases-reduced_by : goal.decreases-reduced_by
decreases-reduced_by l = 4 * size_of (pat_of l.pat.now)

abbrev pub decreases-reduced_at : goal.decreases-reduced_at
decreases-reduced_at l = 4 * size_of_all (pats_of l.pats.now) + 2

abbrev pub decreases-with_arguments : goal.decreases-with_arguments
decreases-with_arguments l = 4 * size_of_all (pats_of l.pats.now) + 1

abbrev pub decreases-with_reduced : goal.decreases-with_reduced
decreases-with_reduced l = 4 * size_of_all (pats_of l.pats.now)

abbrev pub decreases-after_term : goal.decreases-after_term
decreases-after_term l = 4 * size_of_all (pats_of l.pats.now) + 1
