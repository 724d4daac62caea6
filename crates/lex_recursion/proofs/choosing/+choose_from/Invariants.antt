use Rattle.std.proofs.Common.{length}
use Rattle.lex_recursion.proofs.choosing.+choose_from.Given as goal

abbrev pub decreases-choose_from : goal.decreases-choose_from
decreases-choose_from l = length l.rest.now
