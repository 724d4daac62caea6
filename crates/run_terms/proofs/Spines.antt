-- Arguments that are applied in two parts, and how many there are.
use Rattle.std.proofs.lemmas.List.{length-map}
use Rattle.theory.proofs.Spines.{applied-append}

pub ruleset spines = (applied-append)

pub ruleset counts = (length-map)
