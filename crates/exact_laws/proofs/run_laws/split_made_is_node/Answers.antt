use Rattle.exact_laws.proofs.run_laws.MadeSplits.{split_made-is_node}
use Rattle.exact_laws.proofs.run_laws.split_made_is_node.Goals as goal

pub returns : goal.returns
returns c = split_made-is_node
