use Rattle.std.proofs.Common.{length}
use Rattle.drafts.proofs.draft_checks.marks.+are_unmarked.Given as goal

abbrev pub decreases-are_unmarked : goal.decreases-are_unmarked
decreases-are_unmarked l = length l.constructors.now
