use Rattle.std.proofs.Common.{length}
use Rattle.split_terms.proofs.names.+names_joined.Given as goal

abbrev pub decreases-names_joined : goal.decreases-names_joined
decreases-names_joined l = length l.others.now
