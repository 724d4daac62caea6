use Rattle.std.proofs.Common.{length}
use Rattle.function_session.proofs.mutual_families.equations.+check_constructors.Given as goal

abbrev pub decreases-check_constructors : goal.decreases-check_constructors
decreases-check_constructors l = length l.cons.now
