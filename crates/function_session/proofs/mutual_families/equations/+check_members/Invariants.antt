use Rattle.std.proofs.Common.{length}
use Rattle.function_session.proofs.mutual_families.equations.+check_members.Given as goal

abbrev pub decreases-check_members : goal.decreases-check_members
decreases-check_members l = length l.members.now
