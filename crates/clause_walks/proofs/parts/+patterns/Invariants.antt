use Rattle.core_terms.specs.PatternMeanings.{pat_of, pats_of}
use Rattle.case_trees.specs.pattern_vectors.Meeting.{size_of, size_of_all}
use Rattle.clause_walks.proofs.parts.+patterns.Given as goal

abbrev pub decreases-patterns_in : goal.decreases-patterns_in
decreases-patterns_in l = size_of (pat_of l.pat.now)

abbrev pub decreases-all_patterns : goal.decreases-all_patterns
decreases-all_patterns l = size_of_all (pats_of l.pats.now)
