use Rattle.core_terms.specs.PatternMeanings.{pat_of, pats_of}
use Rattle.case_trees.specs.pattern_vectors.Meeting.{size_of, size_of_all}
use Rattle.clause_walks.proofs.parts.+unbound.Given as goal

abbrev pub decreases-add_unbound : goal.decreases-add_unbound
decreases-add_unbound l = size_of (pat_of l.pat.now)

abbrev pub decreases-add_all_unbound : goal.decreases-add_all_unbound
decreases-add_all_unbound l = size_of_all (pats_of l.pats.now)
