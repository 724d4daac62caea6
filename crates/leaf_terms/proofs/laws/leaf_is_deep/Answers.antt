use Rattle.leaf_terms.proofs.LeafTerms.{leaf-is-deep}
use Rattle.leaf_terms.proofs.laws.leaf_is_deep.Goals as goal

pub returns : goal.returns
returns c = leaf-is-deep
