use Rattle.tree_translation.proofs.structural_rec.AdmittingPositions.{admission-decides}
use Rattle.tree_translation.proofs.structural_rec.laws.admission_decides.Goals as goal

pub returns : goal.returns
returns c = admission-decides
