use Rattle.std.proofs.Common.{length}
use Rattle.function_session.proofs.mutual_families.refusing.+constructor_name.Given as goal

abbrev pub decreases-constructor_name : goal.decreases-constructor_name
decreases-constructor_name l = length l.members.now
