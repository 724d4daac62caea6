use Rattle.std.proofs.Common.{length}
use Rattle.function_session.proofs.mutual_families.inductions.+enter_drafts.Given as goal

abbrev pub decreases-enter_drafts : goal.decreases-enter_drafts
decreases-enter_drafts l = length l.drafts.now
