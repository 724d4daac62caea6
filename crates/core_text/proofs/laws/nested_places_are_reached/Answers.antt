use Rattle.core_text.proofs.PlacesFirst.{nested-places-are-reached}
use Rattle.core_text.proofs.laws.nested_places_are_reached.Goals as goal

pub returns : goal.returns
returns c = nested-places-are-reached
