use Rattle.std.proofs.Common.{◌≡◌, map, take}
use Rattle.core_terms.specs.Meanings.{tree_of}
use Rattle.unification.specs.Injecting as injecting
use Rattle.problems.proofs.records.lifted.Given as goal

abbrev pub invariant-loop-t : goal.invariant-loop-t
invariant-loop-t l = map tree_of l.made ≡ injecting.lifted l.by (map tree_of (take l.t-index l.terms))
