use Rattle.elab_session.specs.Sessions.{IsReady}
use Rattle.tree_cases.proofs.running.lines_of.Given as goal

abbrev pub invariant-loop-d : goal.invariant-loop-d
invariant-loop-d l = IsReady l.sig
