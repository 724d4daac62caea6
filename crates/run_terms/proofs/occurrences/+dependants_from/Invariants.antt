use Rattle.std.proofs.Common.{length}
use Rattle.run_terms.proofs.occurrences.+dependants_from.Given as goal

abbrev pub decreases-dependants_from : goal.decreases-dependants_from
decreases-dependants_from l = length l.types.now
