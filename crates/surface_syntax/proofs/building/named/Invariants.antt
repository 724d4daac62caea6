use Rattle.std.proofs.Common.{◌≡◌, map}
use Rattle.surface_syntax.specs.Trees as tree
use Rattle.surface_syntax.specs.TreeMeanings.{surf_of}
use Rattle.surface_syntax.proofs.building.named.Given as goal

abbrev pub invariant-loop-name : goal.invariant-loop-name
invariant-loop-name l = map surf_of l.args ≡ map tree.Named l.yielded
