use Rattle.std.proofs.Common.{length}
use Rattle.generators.proofs.noconf_gen.nct.+applied_to_confusions.Given as goal

abbrev pub decreases-applied_to_confusions : goal.decreases-applied_to_confusions
decreases-applied_to_confusions l = length l.cons.now
