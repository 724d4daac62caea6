use Rattle.tree_translation.proofs.ReplayedBinders.{replay_stands_apart}
use Rattle.tree_translation.proofs.laws.replay_stands_apart.Goals as goal

pub returns : goal.returns
returns c = replay_stands_apart
