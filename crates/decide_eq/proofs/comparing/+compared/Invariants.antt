use Rattle.std.proofs.Common.{length}
use Rattle.decide_eq.proofs.comparing.+compared.Given as goal

abbrev pub decreases-compared : goal.decreases-compared
decreases-compared l = length l.args.now
