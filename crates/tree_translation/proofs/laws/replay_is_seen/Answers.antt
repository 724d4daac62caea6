use Rattle.tree_translation.proofs.SeenSteps.{replay_is_seen}
use Rattle.tree_translation.proofs.laws.replay_is_seen.Goals as goal

pub returns : goal.returns
returns c = replay_is_seen
