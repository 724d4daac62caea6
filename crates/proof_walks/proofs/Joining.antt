-- Functions of lists that are joined.
use Rattle.std.proofs.lemmas.List.{map-append}

pub ruleset joining = (map-append)
