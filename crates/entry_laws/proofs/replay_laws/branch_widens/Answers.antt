use Rattle.entry_laws.proofs.replay_laws.SeenBranches.{branch-widens}
use Rattle.entry_laws.proofs.replay_laws.branch_widens.Goals as goal

pub returns : goal.returns
returns c = branch-widens
