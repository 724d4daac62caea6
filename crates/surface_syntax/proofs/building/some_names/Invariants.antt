use Rattle.std.proofs.Common.{◌≡◌, ◌∷◌}
use Rattle.surface_syntax.specs.Machine as machine
use Rattle.surface_syntax.proofs.building.some_names.Given as goal

abbrev pub invariant-loop-name : goal.invariant-loop-name
invariant-loop-name l = l.binder ≡ machine.some_names (l.fn.first ∷ l.yielded)
