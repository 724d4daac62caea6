use Rattle.std.proofs.Common.{length}
use Rattle.function_entries.proofs.telescopes.+with_first.Given as goal

abbrev pub decreases-with_first : goal.decreases-with_first
decreases-with_first l = length l.terms.now
