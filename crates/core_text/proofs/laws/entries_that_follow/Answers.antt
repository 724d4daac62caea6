use Rattle.core_text.proofs.EntriesFollow.{entries-that-follow}
use Rattle.core_text.proofs.laws.entries_that_follow.Goals as goal

pub returns : goal.returns
returns c = entries-that-follow
