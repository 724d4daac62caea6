-- How much there is of a proof.
use Rattle.std.specs.Prelude.{ℕ, ◌+◌}
use Rattle.clause_reports.specs.ProofWalks.{Proof, Ends, Splits, Proofs, nil, cons}

abbrev mutual
  pub size_of : Proof → ℕ
  size_of (Ends clause p) = 1
  size_of (Splits p x type runs proofs) = 1 + size_of_all proofs

  pub size_of_all : Proofs → ℕ
  size_of_all nil = 1
  size_of_all (cons proof proofs) = 1 + (size_of proof + size_of_all proofs)
