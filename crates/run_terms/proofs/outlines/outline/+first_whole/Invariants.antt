use Rattle.std.proofs.Common.{length}
use Rattle.run_terms.proofs.outlines.outline.+first_whole.Given as goal

abbrev pub decreases-first_whole : goal.decreases-first_whole
decreases-first_whole l = length l.terms.now
