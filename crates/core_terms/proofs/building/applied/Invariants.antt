use Rattle.std.proofs.Common.{◌≡◌}
use Rattle.core_terms.specs.Meanings.{tree_of, tele_of}
use Rattle.theory.specs.Telescopes.{applied}
use Rattle.core_terms.proofs.building.applied.Given as goal

abbrev pub invariant-loop-arg : goal.invariant-loop-arg
invariant-loop-arg l = tree_of l.whole ≡ applied (tree_of l.fn.head) (tele_of l.yielded)
