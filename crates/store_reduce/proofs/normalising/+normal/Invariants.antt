use Rattle.std.proofs.Common.{◌+◌, ◌*◌}
use Rattle.store_reduce.proofs.normalising.+normal.Given as goal

abbrev pub decreases-normalise_in : goal.decreases-normalise_in
decreases-normalise_in g l = 4 * l.room

abbrev pub decreases-normal_pair_in : goal.decreases-normal_pair_in
decreases-normal_pair_in g l = 4 * l.room + 1

abbrev pub decreases-normal_children_in : goal.decreases-normal_children_in
decreases-normal_children_in g l = 4 * l.room + 2
