use Rattle.std.proofs.Common.{◌≡◌, map}
use Rattle.function_checks.specs.function_refusals.RefusalMeanings.{failing_of}
use Rattle.function_session.specs.Refusals.{failing_call}
use Rattle.function_session.proofs.refusing.failing_calls.Given as goal

abbrev pub invariant-loop-call : goal.invariant-loop-call
invariant-loop-call l = l.made ≡ map failing_call (map failing_of l.yielded)
