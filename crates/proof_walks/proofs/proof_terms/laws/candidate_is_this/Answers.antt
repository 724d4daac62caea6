use Rattle.proof_walks.proofs.proof_terms.ProofsMade.{candidate-is}
use Rattle.proof_walks.proofs.proof_terms.laws.candidate_is_this.Goals as goal

pub returns : goal.returns
returns c = candidate-is
