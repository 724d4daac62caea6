-- The constructor with a number.
use Rattle.std.proofs.lemmas.Option.{slice_get-map}

pub ruleset constructors = (slice_get-map)
