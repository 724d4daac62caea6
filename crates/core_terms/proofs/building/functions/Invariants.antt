use Rattle.std.proofs.Common.{◌≡◌, length}
use Rattle.theory.specs.Telescopes.{functions}
use Rattle.core_terms.specs.Meanings.{tree_of, tele_of}
use Rattle.core_terms.proofs.building.functions.Given as goal

abbrev pub invariant-loop-ty : goal.invariant-loop-ty
invariant-loop-ty l = functions (tele_of l.tele.items) (tree_of l.whole) ≡ functions (tele_of l.fn.tele.items) (tree_of l.fn.body)

abbrev pub decreases-loop-ty : goal.decreases-loop-ty
decreases-loop-ty l = length l.tele.items
