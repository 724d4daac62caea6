use Rattle.entry_laws.proofs.node_roots.RootNodes.{step_node-over}
use Rattle.entry_laws.proofs.node_roots.step_node_over.Goals as goal

pub returns : goal.returns
returns c = step_node-over
