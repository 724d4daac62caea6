-- The constructors of all members are those of the first one and then those of the others.
use Rattle.std.proofs.lemmas.List.{append_assoc, map-append, length-append, length-map}

pub ruleset flattened = (append_assoc, map-append)

pub ruleset counted = (length-append, length-map)
