use Rattle.std.proofs.Common.{◌≡◌, drop}
use Rattle.std.specs.List.{list_any}
use Rattle.theory.specs.Families.{mentions}
use Rattle.core_terms.specs.Meanings.{tele_of}
use Rattle.core_sig.proofs.positivity.any_mentions.Given as goal

abbrev pub invariant-loop-t : goal.invariant-loop-t
invariant-loop-t l = list_any (mentions l.fam) (tele_of l.terms) ≡ list_any (mentions l.fam) (tele_of (drop l.t-index l.terms))
