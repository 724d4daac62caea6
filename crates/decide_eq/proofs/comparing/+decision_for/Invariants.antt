use Rattle.std.proofs.Common.{length}
use Rattle.decide_eq.proofs.comparing.+decision_for.Given as goal

abbrev pub decreases-decision_for : goal.decreases-decision_for
decreases-decision_for l = length l.known.now
