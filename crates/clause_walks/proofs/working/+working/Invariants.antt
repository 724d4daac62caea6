use Rattle.std.proofs.Common.{◌+◌, ◌*◌}
use Rattle.core_terms.specs.PatternMeanings.{pat_of, pats_of}
use Rattle.case_trees.specs.pattern_vectors.Meeting.{size_of, size_of_all}
use Rattle.clause_walks.proofs.working.+working.Given as goal

abbrev pub decreases-work_pattern : goal.decreases-work_pattern
decreases-work_pattern l = 4 * size_of (pat_of l.pat.now)

abbrev pub decreases-compared : goal.decreases-compared
decreases-compared l = 4 * size_of_all (pats_of l.pats.now) + 2

abbrev pub decreases-built_pair : goal.decreases-built_pair
decreases-built_pair l = 4 * size_of_all (pats_of l.pats.now) + 1

abbrev pub decreases-work_patterns : goal.decreases-work_patterns
decreases-work_patterns l = 4 * size_of_all (pats_of l.pats.now)

abbrev pub decreases-after_pattern : goal.decreases-after_pattern
decreases-after_pattern l = 4 * size_of_all (pats_of l.pats.now) + 1
