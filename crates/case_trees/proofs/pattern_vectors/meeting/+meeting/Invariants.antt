use Rattle.core_terms.specs.PatternMeanings.{pat_of, pats_of}
use Rattle.case_trees.specs.pattern_vectors.Meeting.{size_of, size_of_all}
use Rattle.case_trees.proofs.pattern_vectors.meeting.+meeting.Given as goal

abbrev pub decreases-meet_pattern : goal.decreases-meet_pattern
decreases-meet_pattern l = size_of (pat_of l.a.now)

abbrev pub decreases-meet_columns : goal.decreases-meet_columns
decreases-meet_columns l = size_of_all (pats_of l.a.now)
