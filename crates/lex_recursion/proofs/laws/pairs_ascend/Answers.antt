use Rattle.lex_recursion.proofs.ListedPairs.{pairs-ascend}
use Rattle.lex_recursion.proofs.laws.pairs_ascend.Goals as goal

pub returns : goal.returns
returns c = pairs-ascend
