use Rattle.lex_recursion.proofs.ChosenPairs.{first-usable}
use Rattle.lex_recursion.proofs.laws.at_is_first_usable.Goals as goal

pub returns : goal.returns
returns c = first-usable
