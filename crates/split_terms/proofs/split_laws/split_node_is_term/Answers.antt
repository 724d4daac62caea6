use Rattle.split_terms.proofs.SplitsMade.{node-is}
use Rattle.split_terms.proofs.split_laws.split_node_is_term.Goals as goal

pub returns : goal.returns
returns c = node-is
