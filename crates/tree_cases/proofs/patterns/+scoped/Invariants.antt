use Rattle.core_terms.specs.PatternMeanings.{pat_of, pats_of}
use Rattle.case_trees.specs.pattern_vectors.Meeting.{size_of, size_of_all}
use Rattle.tree_cases.proofs.patterns.+scoped.Given as goal

abbrev pub decreases-is_scoped_pattern : goal.decreases-is_scoped_pattern
decreases-is_scoped_pattern l = size_of (pat_of l.pat.now)

abbrev pub decreases-are_scoped_patterns : goal.decreases-are_scoped_patterns
decreases-are_scoped_patterns l = size_of_all (pats_of l.pats.now)
