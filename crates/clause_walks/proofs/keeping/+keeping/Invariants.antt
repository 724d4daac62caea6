use Rattle.std.proofs.Common.{◌+◌, ◌*◌}
use Rattle.clause_walks.specs.Meanings.{pair_of, pairs_of}
use Rattle.clause_walks.specs.Sizes.{size_of, size_of_all}
use Rattle.clause_walks.proofs.keeping.+keeping.Given as goal

abbrev pub decreases-keep : goal.decreases-keep
decreases-keep l = 2 * size_of (pair_of l.pair.now)

abbrev pub decreases-keep_arguments : goal.decreases-keep_arguments
decreases-keep_arguments l = 2 * size_of_all (pairs_of l.pairs.now) + 1

abbrev pub decreases-keep_onto : goal.decreases-keep_onto
decreases-keep_onto l = 2 * size_of_all (pairs_of l.pairs.now)
