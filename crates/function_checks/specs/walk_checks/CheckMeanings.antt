-- The meanings of openings, of sites and of the parts that are checked there.
use Rattle.with_abstraction.specs.Meanings.{abstracted_of}
use Rattle.clause_reports.specs.elaboration.Refusals as refusals
use Rattle.clause_reports.specs.elaboration.Walking as pure
use Rattle.function_checks.specs.declared.walk_checks.parts.Asked.{Asked}
use Rattle.function_checks.specs.declared.walk_checks.parts.Asked.TheVariants.{Dot, Side, With, Goal}
use Rattle.function_checks.specs.declared.walk_checks.parts.Opening.{Opening}
use Rattle.function_checks.specs.declared.walk_checks.parts.Site.{Site}

abbrev pub opening_of : Opening → pure.Opening
opening_of o = record { abstraction = abstracted_of o.abstraction; level = o.level }

abbrev pub site_of : Site → refusals.Owner
site_of s = refusals.owner_of s.function.now s.number

abbrev pub asked_of : Asked → refusals.Owner → refusals.Part
asked_of Dot owner = refusals.OfDot owner
asked_of Side owner = refusals.OfSide owner
asked_of With owner = refusals.OfWith owner
asked_of Goal owner = refusals.OfGoal owner
