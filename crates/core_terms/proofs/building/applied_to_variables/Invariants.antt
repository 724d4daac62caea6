use Rattle.std.proofs.Common.{◌≡◌, map}
use Rattle.core_terms.specs.Meanings.{tree_of}
use Rattle.theory.specs.Telescopes.{applied, weaken_by, variables}
use Rattle.core_terms.proofs.building.applied_to_variables.Given as goal

abbrev pub invariant-loop-at : goal.invariant-loop-at
invariant-loop-at l =
    applied (tree_of l.whole) (map (weaken_by l.from) (variables l.at))
    ≡ applied (tree_of l.fn.head) (map (weaken_by l.from) (variables l.count))
