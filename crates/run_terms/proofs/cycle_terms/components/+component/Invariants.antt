use Rattle.std.proofs.Common.{◌+◌, ◌*◌}
use Rattle.core_terms.specs.Meanings.{tree_of}
use Rattle.theory.specs.Terms.{height}
use Rattle.run_terms.proofs.cycle_terms.components.+component.Given as goal

abbrev pub decreases-component_along : goal.decreases-component_along
decreases-component_along l = 4 * height (tree_of l.t.now)

abbrev pub decreases-component_at : goal.decreases-component_at
decreases-component_at l = 4 * height (tree_of l.r.now) + 2
