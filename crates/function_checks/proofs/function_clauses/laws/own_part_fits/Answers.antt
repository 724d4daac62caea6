use Rattle.function_checks.proofs.function_clauses.OwnParts.{own-part-for}
use Rattle.function_checks.proofs.function_clauses.laws.own_part_fits.Goals as goal

pub returns : goal.returns
returns c = own-part-for
