use Rattle.std.proofs.Common.{◌≡◌}
use Rattle.theory.specs.Prelude.{prelude}
use Rattle.theory.specs.WellFormed.{first_entries}
use Rattle.core_sig.proofs.signature.Signature.prelude.Given as goal

abbrev pub invariant-loop-number : goal.invariant-loop-number
invariant-loop-number l = l.sig ≡ first_entries (prelude l.k) l._number
