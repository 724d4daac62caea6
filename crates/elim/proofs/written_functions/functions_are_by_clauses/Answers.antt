use Rattle.elim.proofs.written_functions.Functions.{functions-are-by-clauses}
use Rattle.elim.proofs.written_functions.functions_are_by_clauses.Goals as goal

pub returns : goal.returns
returns c = functions-are-by-clauses
