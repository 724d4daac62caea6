use Rattle.unification.proofs.FollowingRuns.{run-follows}
use Rattle.unification.proofs.rule_laws.run_follows.Goals as goal

pub returns : goal.returns
returns c = run-follows
