use Rattle.lex_recursion.proofs.ListedPairs.{pairs-are-these}
use Rattle.lex_recursion.proofs.laws.pairs_are_these.Goals as goal

pub returns : goal.returns
returns c = pairs-are-these
