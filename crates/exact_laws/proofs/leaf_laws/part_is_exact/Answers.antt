use Rattle.exact_laws.proofs.leaf_laws.ExactLeaves.{part-exact}
use Rattle.exact_laws.proofs.leaf_laws.part_is_exact.Goals as goal

pub returns : goal.returns
returns c = part-exact
