use Rattle.proof_walks.specs.proof_terms.ProofMeanings.{proof_of}
use Rattle.proof_walks.proofs.KeptPlaces.{answer-leaves}
use Rattle.proof_walks.proofs.starts.equation_proof_with.Goals as goal

pub returns-clause-kept : goal.returns-clause-kept
returns-clause-kept c = answer-leaves c.args.sig.now proof_of c.walk_tree.result c.walk_tree.ensures.kept
