use Rattle.std.proofs.Common.{◌≡◌, ◌+◌, ◌≤◌}
use Rattle.core_terms.specs.TreeMeanings.{steps_of}
use Rattle.unification.specs.Runs.{run_of}
use Rattle.problems.specs.Conditions.{IsKept}
use Rattle.problems.specs.Meanings.{state_of}
use Rattle.unifier.proofs.RunCodes.{behind_all, turns_from}
use Rattle.unifier.proofs.unifying.run.Given as goal

abbrev pub invariant-turns : goal.invariant-turns
invariant-turns l = record {
  meant : behind_all (steps_of l.steps) (run_of l.sig (state_of l.state.value) l.kernel.left) ≡ run_of l.sig (state_of l.fn.start.value) l.fn.kernel.left;
  kept : IsKept l.sig (state_of l.state.value);
  kernel : l.kernel.signature ≡ l.sig;
  sum : l.kernel.left + l.kernel.spent ≡ l.fn.kernel.left + l.fn.kernel.spent;
  spends : l.kernel.left ≤ l.fn.kernel.left;
}

abbrev pub decreases-turns : goal.decreases-turns
decreases-turns l = turns_from l.sig (state_of l.state.value) l.kernel.left
