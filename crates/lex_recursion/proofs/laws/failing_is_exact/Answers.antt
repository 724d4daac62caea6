use Rattle.lex_recursion.proofs.ChosenPairs.{failing-exact}
use Rattle.lex_recursion.proofs.laws.failing_is_exact.Goals as goal

pub returns : goal.returns
returns c = failing-exact
