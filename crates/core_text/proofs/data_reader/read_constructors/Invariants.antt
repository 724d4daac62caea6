use Rattle.std.proofs.Common.{◌≡◌, map}
use Rattle.core_sig.specs.Raw.{raw_constructor_of}
use Rattle.core_text.specs.LineReading.{collected, constructors_at, next_constructor}
use Rattle.core_text.proofs.data_reader.read_constructors.Given as goal

abbrev pub invariant-constructors : goal.invariant-constructors
invariant-constructors l =
    collected (next_constructor l.scope.sig.now l.scope.own.now l.count) l.turns (map raw_constructor_of l.found) l.rest
    ≡ constructors_at l.fn.scope.sig.now l.fn.scope.own.now l.fn.count l.fn.from

abbrev pub decreases-constructors : goal.decreases-constructors
decreases-constructors l = l.turns
