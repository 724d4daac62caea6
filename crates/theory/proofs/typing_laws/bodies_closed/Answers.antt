use Rattle.theory.proofs.Scoping.{closed_bodies}
use Rattle.theory.proofs.typing_laws.bodies_closed.Goals as goal

pub returns : goal.returns
returns c = λ S typed. closed_bodies typed
