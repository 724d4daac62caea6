use Rattle.lex_recursion.proofs.FallingCalls.{falls-end}
use Rattle.lex_recursion.proofs.laws.falls_end.Goals as goal

pub returns : goal.returns
returns c = falls-end
