use Rattle.std.proofs.Common.{◌≡◌, ◌+◌, ◌*◌}
use Rattle.core_terms.specs.Meanings.{tree_of}
use Rattle.core_text.specs.Scopes.{look_of}
use Rattle.core_text.specs.TermReading.{arguments_from, read_term}
use Rattle.core_text.proofs.term_reader.+read_term.Given as goal

abbrev pub decreases-read_term : goal.decreases-read_term
decreases-read_term l = 8 * l.room

abbrev pub decreases-read_after : goal.decreases-read_after
decreases-read_after l = 8 * l.room + 1

abbrev pub decreases-read_argument : goal.decreases-read_argument
decreases-read_argument l = 8 * l.room + 1

abbrev pub decreases-read_arguments : goal.decreases-read_arguments
decreases-read_arguments l = 8 * l.room + 2

abbrev pub decreases-read_product : goal.decreases-read_product
decreases-read_product l = 8 * l.room + 2

abbrev pub decreases-read_function : goal.decreases-read_function
decreases-read_function l = 8 * l.room + 2

abbrev pub decreases-read_let : goal.decreases-read_let
decreases-read_let l = 8 * l.room + 2

abbrev pub decreases-read_after_first : goal.decreases-read_after_first
decreases-read_after_first l = 8 * l.room + 3

abbrev pub decreases-read_enclosed : goal.decreases-read_enclosed
decreases-read_enclosed l = 8 * l.room + 4

abbrev pub invariant-read_arguments-arguments : goal.invariant-read_arguments-arguments
invariant-read_arguments-arguments l =
    arguments_from (read_term (look_of l.scope) l.room) l.more (tree_of l.whole.term) l.under l.rest
    ≡ arguments_from (read_term (look_of l.fn.scope) l.fn.room) 2000 (tree_of l.fn.head.term) l.fn.under l.fn.from

abbrev pub decreases-read_arguments-arguments : goal.decreases-read_arguments-arguments
decreases-read_arguments-arguments l = l.more
