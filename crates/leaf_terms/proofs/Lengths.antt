-- How many items a list has after a map.
use Rattle.std.proofs.lemmas.List.{length-map}

pub ruleset lengths = (length-map)
