use Rattle.resolve.proofs.LawProofs.{functions-resolve}
use Rattle.resolve.proofs.laws.functions_resolve.Goals as goal

pub returns : goal.returns
returns c = functions-resolve
