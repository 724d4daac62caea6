use Rattle.std.proofs.Common.{◌≡◌, length}
use Rattle.core_terms.specs.Meanings.{tele_of}
use Rattle.core_text.specs.LineReading.{collected, next_parameter, parameters_at}
use Rattle.core_text.proofs.data_reader.read_parameters.Given as goal

abbrev pub invariant-parameters : goal.invariant-parameters
invariant-parameters l =
    collected (λ found r. next_parameter l.scope.sig.now l.scope.own.now (length found) r) l.turns (tele_of l.found) l.rest
    ≡ parameters_at l.fn.scope.sig.now l.fn.scope.own.now l.fn.from

abbrev pub decreases-parameters : goal.decreases-parameters
decreases-parameters l = l.turns
