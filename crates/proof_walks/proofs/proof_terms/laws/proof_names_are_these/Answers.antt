use Rattle.proof_walks.proofs.proof_terms.ProofsMade.{proof-names-are}
use Rattle.proof_walks.proofs.proof_terms.laws.proof_names_are_these.Goals as goal

pub returns : goal.returns
returns c = proof-names-are
