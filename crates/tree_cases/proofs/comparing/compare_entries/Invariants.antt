use Rattle.std.proofs.Common.{◌≤◌, ◌-◌, length}
use Rattle.elab_session.specs.Sessions.{IsReady}
use Rattle.tree_cases.proofs.comparing.compare_entries.Given as goal

abbrev pub invariant-entries : goal.invariant-entries
invariant-entries l = record {
  within : l.from ≤ length l.text;
  ready : IsReady l.sig;
}

abbrev pub decreases-entries : goal.decreases-entries
decreases-entries l = length l.text - l.from
