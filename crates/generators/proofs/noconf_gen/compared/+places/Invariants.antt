use Rattle.std.proofs.Common.{length}
use Rattle.generators.proofs.noconf_gen.compared.+places.Given as goal

abbrev pub decreases-places : goal.decreases-places
decreases-places l = length l.terms.now
