use Rattle.std.proofs.Common.{◌≡◌, ◌∷◌, ◌++◌, take}
use Rattle.tele_eq.specs.Items.{each_position}
use Rattle.unification.specs.Occurrences.{without}
use Rattle.unifier.proofs.occurrences.order_without.Given as goal

abbrev pub invariant-loop-j : goal.invariant-loop-j
invariant-loop-j l =
    l.order.items ≡ without (l.p ∷ l.dependants) (each_position (λ j. j) 0 l.count) ++ take l.j-index l.dependants
