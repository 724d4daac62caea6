use Rattle.std.proofs.Common.{◌≡◌, ◌++◌}
use Rattle.core_terms.specs.Meanings.{tele_of}
use Rattle.case_below_gen.proofs.paths.with_all.Given as goal

abbrev pub invariant-loop-t : goal.invariant-loop-t
invariant-loop-t l = tele_of l.terms.items ≡ tele_of l.fn.terms.items ++ tele_of l.yielded
