use Rattle.std.proofs.Common.{length}
use Rattle.lex_recursion.proofs.failing.+first_failing.Given as goal

abbrev pub decreases-first_failing : goal.decreases-first_failing
decreases-first_failing l = length l.uses.now
