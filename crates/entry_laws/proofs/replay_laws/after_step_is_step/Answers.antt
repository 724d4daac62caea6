use Rattle.entry_laws.proofs.replay_laws.ReplayedSteps.{after_step-is_step}
use Rattle.entry_laws.proofs.replay_laws.after_step_is_step.Goals as goal

pub returns : goal.returns
returns c = after_step-is_step
