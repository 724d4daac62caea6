use Rattle.std.proofs.Common.{◌≡◌, Ok, map, length}
use Rattle.resolve.specs.Binding.{closed}
use Rattle.core_terms.specs.Low.{low_of}
use Rattle.resolve.specs.Forms.{former}
use Rattle.resolve.proofs.terms.bind.Given as goal

abbrev pub invariant-loop-ty : goal.invariant-loop-ty
invariant-loop-ty l =
    closed (former l.form) (map low_of l.initial.types.items) (Ok (low_of l.initial.made))
    ≡ closed (former l.form) (map low_of l.types.items) (Ok (low_of l.made))

abbrev pub decreases-loop-ty : goal.decreases-loop-ty
decreases-loop-ty l = length l.types.items
