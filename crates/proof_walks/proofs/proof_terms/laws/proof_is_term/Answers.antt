use Rattle.proof_walks.proofs.proof_terms.ProofsMade.{proof-is}
use Rattle.proof_walks.proofs.proof_terms.laws.proof_is_term.Goals as goal

pub returns : goal.returns
returns c = proof-is
