use Rattle.std.proofs.Common.{◌≡◌}
use Rattle.core_terms.specs.Meanings.{tele_of}
use Rattle.leaf_terms.specs.CodeRightSides.{or_towers}
use Rattle.leaf_terms.specs.PlaceMeanings.{arguments_of}
use Rattle.leaf_terms.proofs.towers.or_towers.Given as goal

abbrev pub invariant-loop-t : goal.invariant-loop-t
invariant-loop-t l = tele_of l.made.items ≡ or_towers (arguments_of l.yielded)
