use Rattle.std.proofs.Common.{◌≡◌, take}
use Rattle.resolve.proofs.variables.named_variables.Given as goal

abbrev pub invariant-loop-name : goal.invariant-loop-name
invariant-loop-name l = l.variables ≡ take l.name-index l.names
