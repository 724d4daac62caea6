use Rattle.elim.proofs.headline.Runs.{has-run}
use Rattle.elim.proofs.headline.running.run.Goals as goal

pub returns-clause-runs : goal.returns-clause-runs
returns-clause-runs g c = has-run c.full_headline.ensures _ _ _ _ _ c.run.ensures.runs

pub returns-clause-complete : goal.returns-clause-complete
returns-clause-complete g c = λ source sink memory. c.whole_is_meant.ensures _ _ _ _ _ (c.run.ensures.complete source sink memory)
