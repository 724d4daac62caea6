use Rattle.std.proofs.Common.{length}
use Rattle.decide_eq.proofs.plain.+offending_argument.Given as goal

abbrev pub decreases-offending_argument : goal.decreases-offending_argument
decreases-offending_argument l = length l.args.now
