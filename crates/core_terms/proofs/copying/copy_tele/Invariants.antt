use Rattle.std.proofs.Common.{◌≡◌, map, take}
use Rattle.core_terms.specs.Meanings.{tree_of}
use Rattle.core_terms.proofs.copying.copy_tele.Given as goal

abbrev pub invariant-loop-t : goal.invariant-loop-t
invariant-loop-t l = map tree_of l.copies ≡ map tree_of (take l.t-index l.terms)
