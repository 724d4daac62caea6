-- Terms that are added at the end of a list.
use Rattle.std.proofs.lemmas.List.{map-append}

pub ruleset joining = (map-append)
