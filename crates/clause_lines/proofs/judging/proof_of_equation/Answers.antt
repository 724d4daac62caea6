use Rattle.proof_walks.proofs.KeptPlaces.{open-ready}
use Rattle.clause_lines.proofs.judging.proof_of_equation.Goals as goal

pub equation_proof_with-requires-clause-ready : goal.equation_proof_with-requires-clause-ready
equation_proof_with-requires-clause-ready c = open-ready c.args.sig.now c.requires.given
