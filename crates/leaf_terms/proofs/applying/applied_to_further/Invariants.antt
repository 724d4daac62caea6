use Rattle.std.proofs.Common.{◌≡◌, drop, length, min}
use Rattle.theory.specs.Telescopes.{applied}
use Rattle.core_terms.specs.Meanings.{tree_of, tele_of}
use Rattle.leaf_terms.proofs.applying.applied_to_further.Given as goal

abbrev pub invariant-loop-t : goal.invariant-loop-t
invariant-loop-t l =
    (tree_of l.whole ≡ applied (tree_of l.fn.head) (drop l.count (tele_of l.yielded)))
    × (l.passed ≡ min l.count (length l.yielded))
