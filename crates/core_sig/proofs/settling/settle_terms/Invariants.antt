use Rattle.std.proofs.Common.{◌≡◌, take}
use Rattle.core_terms.specs.Meanings.{tele_of}
use Rattle.core_sig.specs.SettledParts.{settled_terms}
use Rattle.core_sig.specs.Settling.{settled_number}
use Rattle.core_sig.proofs.settling.settle_terms.Given as goal

abbrev pub invariant-loop-t : goal.invariant-loop-t
invariant-loop-t l = tele_of l.settled ≡ settled_terms (settled_number l.sig l.draft.base l.draft.names) (take l.t-index l.terms)
