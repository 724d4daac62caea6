use Rattle.function_session.proofs.plan_laws.SameAbstractions.{same-abstractions}
use Rattle.function_session.proofs.plan_laws.same_abstractions.Goals as goal

pub returns : goal.returns
returns c = same-abstractions
