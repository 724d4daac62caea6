use Rattle.leaf_terms.proofs.LeafTerms.{leaf-is-term}
use Rattle.leaf_terms.proofs.laws.leaf_is_term.Goals as goal

pub returns : goal.returns
returns c = leaf-is-term
