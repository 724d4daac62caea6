use Rattle.generators.proofs.acyclic_gen.DirectComputing.{direct-computes}
use Rattle.generators.proofs.acyclic_gen.laws.direct_computes.Goals as goal

pub returns : goal.returns
returns c = direct-computes
