use Rattle.std.proofs.Common.{length}
use Rattle.decide_eq.proofs.plain.+all_universes.Given as goal

abbrev pub decreases-all_universes : goal.decreases-all_universes
decreases-all_universes l = length l.params.now
