use Rattle.std.proofs.Common.{◌≡◌, ◌++◌, length, map}
use Rattle.run_terms.specs.outlines.OutlineMeanings.{outline_of, outlines_of}
use Rattle.run_terms.proofs.outlines.outline.listed.Given as goal

abbrev pub invariant-loop-last : goal.invariant-loop-last
invariant-loop-last l = map outline_of l.outlines.items ++ outlines_of l.made ≡ map outline_of l.fn.outlines.items

abbrev pub decreases-loop-last : goal.decreases-loop-last
decreases-loop-last l = length l.outlines.items
