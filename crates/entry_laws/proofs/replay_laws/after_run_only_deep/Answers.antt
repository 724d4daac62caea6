use Rattle.entry_laws.proofs.replay_laws.ReplayedSteps.{after_run-only_deep}
use Rattle.entry_laws.proofs.replay_laws.after_run_only_deep.Goals as goal

pub returns : goal.returns
returns c = after_run-only_deep
