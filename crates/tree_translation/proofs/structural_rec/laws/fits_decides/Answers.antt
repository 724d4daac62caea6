use Rattle.tree_translation.proofs.structural_rec.FittingCalls.{fit-decides}
use Rattle.tree_translation.proofs.structural_rec.laws.fits_decides.Goals as goal

pub returns : goal.returns
returns c = fit-decides
