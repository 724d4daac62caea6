use Rattle.lex_recursion.proofs.FallingCalls.{calls-fall}
use Rattle.lex_recursion.proofs.laws.calls_fall.Goals as goal

pub returns : goal.returns
returns c = calls-fall
