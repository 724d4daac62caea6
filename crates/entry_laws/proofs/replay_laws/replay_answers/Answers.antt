use Rattle.entry_laws.proofs.replay_laws.AnsweredRuns.{replay-answers}
use Rattle.entry_laws.proofs.replay_laws.replay_answers.Goals as goal

pub returns : goal.returns
returns c = replay-answers
