use Rattle.std.proofs.Common.{◌+◌, ◌*◌}
use Rattle.core_terms.specs.PatternMeanings.{pat_of, pats_of}
use Rattle.case_trees.specs.pattern_vectors.Meeting.{size_of, size_of_all}
use Rattle.clause_equations.proofs.showing.+showing.Given as goal

abbrev pub decreases-shown_after : goal.decreases-shown_after
decreases-shown_after l = 4 * size_of_all (pats_of l.pats.now) + 1

abbrev pub decreases-shown_constructor : goal.decreases-shown_constructor
decreases-shown_constructor l = 4 * size_of_all (pats_of l.pats.now) + 2

abbrev pub decreases-shown : goal.decreases-shown
decreases-shown l = 4 * size_of (pat_of l.pat.now)

abbrev pub decreases-with_shown : goal.decreases-with_shown
decreases-with_shown l = 4 * size_of_all (pats_of l.pats.now)
