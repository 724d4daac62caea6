use Rattle.std.proofs.Common.{length}
use Rattle.drafts.proofs.draft_checks.enterable.+names_enter.Given as goal

abbrev pub decreases-names_enter : goal.decreases-names_enter
decreases-names_enter l = length l.names.now
