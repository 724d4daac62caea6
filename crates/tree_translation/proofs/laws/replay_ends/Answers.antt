use Rattle.tree_translation.proofs.ReplayedEnds.{replay_ends}
use Rattle.tree_translation.proofs.laws.replay_ends.Goals as goal

pub returns : goal.returns
returns c = replay_ends
