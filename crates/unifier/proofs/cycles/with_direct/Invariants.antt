use Rattle.std.proofs.Common.{◌≡◌, ◌++◌, map, length, reverse}
use Rattle.core_terms.specs.Meanings.{tree_of, tele_of}
use Rattle.core_sig.specs.Meanings.{argument_of}
use Rattle.problems.specs.CodeCycles.{direct_among, direct_in}
use Rattle.unifier.proofs.cycles.with_direct.Given as goal

abbrev pub invariant-arguments : goal.invariant-arguments
invariant-arguments l =
    tele_of l.made.items ++ reverse (direct_among (map (argument_of (length l.b.record.now.params)) l.b.con.now.args) (tele_of l.us.items))
    ≡ tele_of l.fn.terms.items ++ reverse (direct_in l.b (tree_of l.t))

abbrev pub decreases-arguments : goal.decreases-arguments
decreases-arguments l = length l.us.items
