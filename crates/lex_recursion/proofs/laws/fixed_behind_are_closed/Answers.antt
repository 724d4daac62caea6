use Rattle.lex_recursion.proofs.FixedBehind.{fixed-behind-decides}
use Rattle.lex_recursion.proofs.laws.fixed_behind_are_closed.Goals as goal

pub returns : goal.returns
returns c = fixed-behind-decides
