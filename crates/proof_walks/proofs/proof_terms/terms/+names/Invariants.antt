use Rattle.proof_walks.specs.proof_terms.ProofMeanings.{proof_of, proofs_of}
use Rattle.proof_walks.specs.proof_terms.Sizes.{size_of, size_of_all}
use Rattle.proof_walks.proofs.proof_terms.terms.+names.Given as goal

abbrev pub decreases-proof_names : goal.decreases-proof_names
decreases-proof_names l = size_of (proof_of l.proof.now)

abbrev pub decreases-all_names : goal.decreases-all_names
decreases-all_names l = size_of_all (proofs_of l.proofs.now)
