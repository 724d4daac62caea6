use Rattle.drafts.proofs.draft_entering.UnmarkedNames.{names-free}
use Rattle.drafts.proofs.draft_entering.laws.names_are_free.Goals as goal

pub returns : goal.returns
returns c = names-free
