use Rattle.entry_laws.proofs.node_roots.RootNodes.{helper_node-over}
use Rattle.entry_laws.proofs.node_roots.helper_node_over.Goals as goal

pub returns : goal.returns
returns c = helper_node-over
