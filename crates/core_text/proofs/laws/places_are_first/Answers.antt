use Rattle.core_text.proofs.PlacesFirst.{places-are-first}
use Rattle.core_text.proofs.laws.places_are_first.Goals as goal

pub returns : goal.returns
returns c = places-are-first
