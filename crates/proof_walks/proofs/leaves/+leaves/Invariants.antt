use Rattle.proof_walks.specs.proof_terms.ProofMeanings.{proof_of, proofs_of}
use Rattle.proof_walks.specs.proof_terms.Sizes.{size_of, size_of_all}
use Rattle.proof_walks.proofs.leaves.+leaves.Given as goal

abbrev pub decreases-add_leaves : goal.decreases-add_leaves
decreases-add_leaves l = size_of (proof_of l.proof.now)

abbrev pub decreases-add_all : goal.decreases-add_all
decreases-add_all l = size_of_all (proofs_of l.proofs.now)
