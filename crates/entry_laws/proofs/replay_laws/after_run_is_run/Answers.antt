use Rattle.entry_laws.proofs.replay_laws.ReplayedSteps.{after_run-is_run}
use Rattle.entry_laws.proofs.replay_laws.after_run_is_run.Goals as goal

pub returns : goal.returns
returns c = after_run-is_run
