use Rattle.std.proofs.Common.{◌≡◌, ◌++◌, drop}
use Rattle.function_session.specs.decisions.Known as spec
use Rattle.function_session.proofs.decisions.known.known_into.Given as goal

abbrev pub invariant-loop-decision : goal.invariant-loop-decision
invariant-loop-decision l = l.known ++ spec.known_into l.into (drop l.decision-index l.decisions) ≡ spec.known_into l.into l.decisions
