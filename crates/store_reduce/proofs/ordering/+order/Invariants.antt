use Rattle.std.proofs.Common.{◌+◌, ◌*◌}
use Rattle.store_reduce.proofs.ordering.+order.Given as goal

abbrev pub decreases-order_in : goal.decreases-order_in
decreases-order_in g l = 6 * l.room

abbrev pub decreases-order_products_in : goal.decreases-order_products_in
decreases-order_products_in g l = 6 * l.room + 1

abbrev pub decreases-order_others_in : goal.decreases-order_others_in
decreases-order_others_in g l = 6 * l.room + 2

abbrev pub decreases-order_heads_in : goal.decreases-order_heads_in
decreases-order_heads_in g l = 6 * l.room + 3

abbrev pub decreases-order_head_in : goal.decreases-order_head_in
decreases-order_head_in g l = 6 * l.room + 4

abbrev pub decreases-order_forms_in : goal.decreases-order_forms_in
decreases-order_forms_in g l = 6 * l.room + 5
