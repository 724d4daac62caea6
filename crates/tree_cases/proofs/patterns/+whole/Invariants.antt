use Rattle.core_terms.specs.PatternMeanings.{pat_of, pats_of}
use Rattle.case_trees.specs.pattern_vectors.Meeting.{size_of, size_of_all}
use Rattle.tree_cases.proofs.patterns.+whole.Given as goal

abbrev pub decreases-is_whole : goal.decreases-is_whole
decreases-is_whole l = size_of (pat_of l.pat.now)

abbrev pub decreases-are_whole : goal.decreases-are_whole
decreases-are_whole l = size_of_all (pats_of l.pats.now)
