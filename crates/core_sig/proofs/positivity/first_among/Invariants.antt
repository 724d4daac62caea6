use Rattle.std.proofs.Common.{◌≡◌, map, drop, length}
use Rattle.core_sig.specs.Meanings.{constructor_of}
use Rattle.core_sig.specs.Offenders.{offender_among}
use Rattle.core_sig.proofs.positivity.first_among.Given as goal

abbrev pub invariant-loop-number : goal.invariant-loop-number
invariant-loop-number l =
    offender_among l.fam 0 (map (constructor_of (length l.fn.f.params)) l.fn.f.cons)
    ≡ offender_among l.fam l.number (map (constructor_of (length l.fn.f.params)) (drop l.number l.fn.f.cons))
