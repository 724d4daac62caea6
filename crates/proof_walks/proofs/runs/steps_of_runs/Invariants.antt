use Rattle.std.proofs.Common.{◌≡◌, map}
use Rattle.core_terms.specs.TreeMeanings.{steps_of}
use Rattle.clause_walks.specs.LookMeanings.{ends_of}
use Rattle.proof_walks.specs.SolvedRuns.{steps_of_ends}
use Rattle.proof_walks.proofs.runs.steps_of_runs.Given as goal

abbrev pub invariant-loop-run : goal.invariant-loop-run
invariant-loop-run l = map steps_of l.all ≡ steps_of_ends (ends_of l.yielded)
