use Rattle.std.proofs.Common.{length}
use Rattle.generators.proofs.noconf_gen.fitting.+fit_members.Given as goal

abbrev pub decreases-fit_members : goal.decreases-fit_members
decreases-fit_members l = length l.cons.now
