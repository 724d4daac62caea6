use Rattle.case_below_gen.proofs.WholePaths.{path-computes}
use Rattle.case_below_gen.proofs.laws.path_computes.Goals as goal

pub returns : goal.returns
returns c = path-computes
