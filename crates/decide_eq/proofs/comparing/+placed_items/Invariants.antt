use Rattle.std.proofs.Common.{length}
use Rattle.decide_eq.proofs.comparing.+placed_items.Given as goal

abbrev pub decreases-placed_items : goal.decreases-placed_items
decreases-placed_items l = length l.args.now
