use Rattle.drafts.proofs.draft_checks.UnmarkedEntries.{unmarked-open}
use Rattle.drafts.proofs.draft_checks.laws.unmarked_is_open.Goals as goal

pub returns : goal.returns
returns c = unmarked-open
