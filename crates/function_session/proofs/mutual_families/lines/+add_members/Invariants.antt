use Rattle.std.proofs.Common.{length}
use Rattle.function_session.proofs.mutual_families.lines.+add_members.Given as goal

abbrev pub decreases-add_members : goal.decreases-add_members
decreases-add_members l = length l.members.now
