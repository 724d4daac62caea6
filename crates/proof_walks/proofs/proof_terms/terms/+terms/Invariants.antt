use Rattle.proof_walks.specs.proof_terms.ProofMeanings.{proof_of, proofs_of}
use Rattle.proof_walks.specs.proof_terms.Sizes.{size_of, size_of_all}
use Rattle.proof_walks.proofs.proof_terms.terms.+terms.Given as goal

abbrev pub decreases-proof_term : goal.decreases-proof_term
decreases-proof_term l = size_of (proof_of l.proof.now)

abbrev pub decreases-proof_terms : goal.decreases-proof_terms
decreases-proof_terms l = size_of_all (proofs_of l.proofs.now)
