use Rattle.lex_recursion.proofs.FallingCalls.{finitary-falls}
use Rattle.lex_recursion.proofs.laws.finitary_calls_fall.Goals as goal

pub returns : goal.returns
returns c = finitary-falls
