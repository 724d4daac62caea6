use Rattle.case_below_gen.proofs.PathLaws.{path-step-computes}
use Rattle.case_below_gen.proofs.laws.path_step_computes.Goals as goal

pub returns : goal.returns
returns c = path-step-computes
