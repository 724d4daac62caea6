use Rattle.std.proofs.Common.{◌≡◌, drop}
use Rattle.core_terms.specs.Meanings.{tele_of}
use Rattle.core_sig.specs.Meanings.{family_of}
use Rattle.family_check.specs.Shapes.{first_offender}
use Rattle.family_check.proofs.constructors.first_offender.Given as goal

abbrev pub invariant-loop-at : goal.invariant-loop-at
invariant-loop-at l =
    first_offender l.n (family_of l.f) 0 (tele_of l.types) ≡ first_offender l.n (family_of l.f) l.at (drop l.at (tele_of l.types))
