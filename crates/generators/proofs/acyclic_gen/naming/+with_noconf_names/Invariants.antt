use Rattle.std.proofs.Common.{length}
use Rattle.generators.proofs.acyclic_gen.naming.+with_noconf_names.Given as goal

abbrev pub decreases-with_noconf_names : goal.decreases-with_noconf_names
decreases-with_noconf_names l = length l.cons.now
