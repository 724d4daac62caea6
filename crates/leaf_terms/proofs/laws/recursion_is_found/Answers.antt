use Rattle.leaf_terms.proofs.RecursionFound.{recursion-found}
use Rattle.leaf_terms.proofs.laws.recursion_is_found.Goals as goal

pub returns : goal.returns
returns c = recursion-found
