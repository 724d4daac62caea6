use Rattle.function_session.proofs.plan_laws.SameWalks.{same-walks}
use Rattle.function_session.proofs.plan_laws.same_walks.Goals as goal

pub returns : goal.returns
returns c = same-walks
