use Rattle.case_trees.proofs.WalkLeading.{walk_leads}
use Rattle.case_trees.proofs.laws.walk_leads.Goals as goal

pub returns : goal.returns
returns c = walk_leads
