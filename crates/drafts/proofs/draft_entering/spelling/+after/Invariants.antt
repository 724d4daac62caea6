use Rattle.std.proofs.Common.{length}
use Rattle.drafts.proofs.draft_entering.spelling.+after.Given as goal

abbrev pub decreases-after : goal.decreases-after
decreases-after l = length l.name.now
