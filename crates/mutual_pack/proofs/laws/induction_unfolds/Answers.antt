use Rattle.mutual_pack.proofs.InductionsUnfold.{induction-unfolds}
use Rattle.mutual_pack.proofs.laws.induction_unfolds.Goals as goal

pub returns : goal.returns
returns c = induction-unfolds
