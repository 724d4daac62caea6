use Rattle.tree_translation.proofs.ReplayedEnds.{replay_goal}
use Rattle.tree_translation.proofs.laws.replay_goal.Goals as goal

pub returns : goal.returns
returns c = replay_goal
