use Rattle.tree_translation.proofs.ReplayedRuns.{replay_is_run}
use Rattle.tree_translation.proofs.laws.replay_is_run.Goals as goal

pub returns : goal.returns
returns c = replay_is_run
