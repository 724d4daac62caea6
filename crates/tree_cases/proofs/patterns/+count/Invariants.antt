use Rattle.core_terms.specs.PatternMeanings.{pat_of, pats_of}
use Rattle.case_trees.specs.pattern_vectors.Meeting.{size_of, size_of_all}
use Rattle.tree_cases.proofs.patterns.+count.Given as goal

abbrev pub decreases-without : goal.decreases-without
decreases-without l = size_of (pat_of l.pat.now)

abbrev pub decreases-without_all : goal.decreases-without_all
decreases-without_all l = size_of_all (pats_of l.pats.now)
