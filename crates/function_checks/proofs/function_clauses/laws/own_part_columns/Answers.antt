use Rattle.function_checks.proofs.function_clauses.OwnParts.{own-columns}
use Rattle.function_checks.proofs.function_clauses.laws.own_part_columns.Goals as goal

pub returns : goal.returns
returns c = own-columns
