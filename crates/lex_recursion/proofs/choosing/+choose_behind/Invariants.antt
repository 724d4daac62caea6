use Rattle.std.proofs.Common.{length}
use Rattle.lex_recursion.proofs.choosing.+choose_behind.Given as goal

abbrev pub decreases-choose_behind : goal.decreases-choose_behind
decreases-choose_behind l = length l.rest.now
