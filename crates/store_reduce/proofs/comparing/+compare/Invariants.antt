use Rattle.std.proofs.Common.{◌+◌, ◌*◌}
use Rattle.store_reduce.proofs.comparing.+compare.Given as goal

abbrev pub decreases-compare_in : goal.decreases-compare_in
decreases-compare_in g l = 5 * l.room

abbrev pub decreases-compare_both_in : goal.decreases-compare_both_in
decreases-compare_both_in g l = 5 * l.room + 1

abbrev pub decreases-compare_heads_in : goal.decreases-compare_heads_in
decreases-compare_heads_in g l = 5 * l.room + 2

abbrev pub decreases-compare_forms_in : goal.decreases-compare_forms_in
decreases-compare_forms_in g l = 5 * l.room + 4

abbrev pub decreases-compare_head_in : goal.decreases-compare_head_in
decreases-compare_head_in g l = 5 * l.room + 3
