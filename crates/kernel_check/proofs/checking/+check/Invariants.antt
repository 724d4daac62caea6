use Rattle.std.proofs.Common.{◌+◌, ◌*◌}
use Rattle.kernel_check.proofs.checking.+check.Given as goal

abbrev pub decreases-infer_at : goal.decreases-infer_at
decreases-infer_at g l = 9 * l.room

abbrev pub decreases-infer_sort_at : goal.decreases-infer_sort_at
decreases-infer_sort_at g l = 9 * l.room

abbrev pub decreases-check_at : goal.decreases-check_at
decreases-check_at g l = 9 * l.room

abbrev pub decreases-applications::reduced_product : goal.decreases-applications::reduced_product
decreases-applications::reduced_product g l = 9 * l.room + 1

abbrev pub decreases-applications::apply_product : goal.decreases-applications::apply_product
decreases-applications::apply_product g l = 9 * l.room + 1

abbrev pub decreases-infer_rest : goal.decreases-infer_rest
decreases-infer_rest g l = 9 * l.room + 1

abbrev pub decreases-infer_codomain : goal.decreases-infer_codomain
decreases-infer_codomain g l = 9 * l.room + 1

abbrev pub decreases-infer_body : goal.decreases-infer_body
decreases-infer_body g l = 9 * l.room + 1

abbrev pub decreases-applications::product_of : goal.decreases-applications::product_of
decreases-applications::product_of g l = 9 * l.room + 2

abbrev pub decreases-infer_value : goal.decreases-infer_value
decreases-infer_value g l = 9 * l.room + 2

abbrev pub decreases-infer_product : goal.decreases-infer_product
decreases-infer_product g l = 9 * l.room + 2

abbrev pub decreases-infer_function : goal.decreases-infer_function
decreases-infer_function g l = 9 * l.room + 2

abbrev pub decreases-applications::apply_typed : goal.decreases-applications::apply_typed
decreases-applications::apply_typed g l = 9 * l.room + 3

abbrev pub decreases-infer_local : goal.decreases-infer_local
decreases-infer_local g l = 9 * l.room + 3

abbrev pub decreases-applications::infer_application : goal.decreases-applications::infer_application
decreases-applications::infer_application g l = 9 * l.room + 7

abbrev pub decreases-infer_form : goal.decreases-infer_form
decreases-infer_form g l = 9 * l.room + 8

abbrev pub decreases-applications::fill_checked : goal.decreases-applications::fill_checked
decreases-applications::fill_checked g l = 9 * l.room + 1

abbrev pub decreases-applications::fill_product : goal.decreases-applications::fill_product
decreases-applications::fill_product g l = 9 * l.room + 2

abbrev pub decreases-applications::fill_closed : goal.decreases-applications::fill_closed
decreases-applications::fill_closed g l = 9 * l.room + 4

abbrev pub decreases-applications::fill_next : goal.decreases-applications::fill_next
decreases-applications::fill_next g l = 9 * l.room + 5

abbrev pub decreases-applications::open_at : goal.decreases-applications::open_at
decreases-applications::open_at g l = 9 * l.room + 1

abbrev pub decreases-applications::open_application : goal.decreases-applications::open_application
decreases-applications::open_application g l = 9 * l.room + 6
