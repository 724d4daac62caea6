use Rattle.generators.proofs.acyclic_gen.DirectArguments.{direct-arguments}
use Rattle.generators.proofs.acyclic_gen.laws.direct_at_the_family.Goals as goal

pub returns : goal.returns
returns c = direct-arguments
