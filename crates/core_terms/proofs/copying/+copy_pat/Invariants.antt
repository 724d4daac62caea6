use Rattle.std.proofs.Common.{◌≡◌, map, take}
use Rattle.core_terms.specs.PatternMeanings.{pat_of}
use Rattle.core_terms.proofs.copying.+copy_pat.Given as goal

abbrev pub invariant-loop-arg : goal.invariant-loop-arg
invariant-loop-arg l = map pat_of l.copies ≡ map pat_of (take l.arg-index l.arg-items)
