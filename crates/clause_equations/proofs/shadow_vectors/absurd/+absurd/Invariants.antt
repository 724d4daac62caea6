use Rattle.core_terms.specs.PatternMeanings.{pat_of, pats_of}
use Rattle.case_trees.specs.pattern_vectors.Meeting.{size_of, size_of_all}
use Rattle.clause_equations.proofs.shadow_vectors.absurd.+absurd.Given as goal

abbrev pub decreases-is_absurd : goal.decreases-is_absurd
decreases-is_absurd l = size_of (pat_of l.pat.now)

abbrev pub decreases-some_absurd : goal.decreases-some_absurd
decreases-some_absurd l = size_of_all (pats_of l.pats.now)
