use Rattle.std.proofs.Common.{◌≡◌, map, take}
use Rattle.core_terms.specs.Meanings.{tele_of}
use Rattle.unification.specs.Groups.{lowered}
use Rattle.unifier.proofs.groups.all_lowered.Given as goal

abbrev pub invariant-loop-t : goal.invariant-loop-t
invariant-loop-t l = tele_of l.made ≡ map (lowered l.k) (tele_of (take l.t-index l.terms))
