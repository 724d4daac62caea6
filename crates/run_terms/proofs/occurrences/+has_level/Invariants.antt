use Rattle.std.proofs.Common.{length}
use Rattle.run_terms.proofs.occurrences.+has_level.Given as goal

abbrev pub decreases-has_level : goal.decreases-has_level
decreases-has_level l = length l.levels.now
