use Rattle.std.proofs.Common.{length}
use Rattle.generators.proofs.noconf_gen.compared.+placed_items.Given as goal

abbrev pub decreases-placed_items : goal.decreases-placed_items
decreases-placed_items l = length l.args.now
