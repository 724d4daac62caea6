use Rattle.std.proofs.Common.{◌+◌, ◌*◌}
use Rattle.core_terms.specs.Meanings.{tree_of}
use Rattle.theory.specs.Terms.{height}
use Rattle.lex_recursion.proofs.failing.+failing_call.Given as goal

abbrev pub decreases-failing_call : goal.decreases-failing_call
decreases-failing_call l = 2 * height (tree_of l.t.now)

abbrev pub decreases-or_failing_call : goal.decreases-or_failing_call
decreases-or_failing_call l = 2 * height (tree_of l.t.now) + 1
