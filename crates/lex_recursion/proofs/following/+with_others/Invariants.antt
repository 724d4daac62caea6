use Rattle.std.proofs.Common.{length}
use Rattle.lex_recursion.proofs.following.+with_others.Given as goal

abbrev pub decreases-with_others : goal.decreases-with_others
decreases-with_others l = length l.others.now
