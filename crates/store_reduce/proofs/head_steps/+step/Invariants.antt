use Rattle.std.proofs.Common.{◌+◌, ◌*◌}
use Rattle.theory.specs.Terms.{height}
use Rattle.store_reduce.proofs.head_steps.+step.Given as goal

abbrev pub decreases-step_in : goal.decreases-step_in
decreases-step_in g l = 5 * height ((g.S.TermStore.held l.store.now).tree l.t) + 4

abbrev pub decreases-application_step_in : goal.decreases-application_step_in
decreases-application_step_in g l = 5 * height ((g.S.TermStore.held l.store.now).tree l.t) + 3

abbrev pub decreases-step_at_in : goal.decreases-step_at_in
decreases-step_at_in g l = 5 * height ((g.S.TermStore.held l.store.now).tree l.t) + 2

abbrev pub decreases-eliminate_step_in : goal.decreases-eliminate_step_in
decreases-eliminate_step_in g l = 5 * height ((g.S.TermStore.held l.store.now).tree l.t) + 1

abbrev pub decreases-scrutinee_step_in : goal.decreases-scrutinee_step_in
decreases-scrutinee_step_in g l = 5 * height ((g.S.TermStore.held l.store.now).tree l.t)
