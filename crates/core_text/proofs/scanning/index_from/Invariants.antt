use Rattle.std.proofs.Common.{◌≡◌, ◌<◌, length}
use Rattle.core_text.specs.Reading.{index_from}
use Rattle.core_text.proofs.scanning.index_from.Given as goal

abbrev pub invariant-digits : goal.invariant-digits
invariant-digits l = (l.value < l.bound) × (index_from l.bound l.value l.rest ≡ index_from l.bound l.start l.fn.digits)

abbrev pub decreases-digits : goal.decreases-digits
decreases-digits l = length l.rest
