use Rattle.clause_walks.proofs.RunCodes.{all-from}
use Rattle.clause_walks.proofs.reaching.wanted_runs.Goals as goal

pub run_from-requires-clause-constructors : goal.run_from-requires-clause-constructors
run_from-requires-clause-constructors c = all-from c.args.found.now.member c.as_slice-cons.result.now c.as_slice-cons.ensures
