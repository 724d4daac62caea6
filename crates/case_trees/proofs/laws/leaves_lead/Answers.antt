use Rattle.case_trees.proofs.TreeMatching.{leaves_lead}
use Rattle.case_trees.proofs.laws.leaves_lead.Goals as goal

pub returns : goal.returns
returns c = leaves_lead
