-- Reduction, unification, walks and trees read of a signature its families, the bodies of its constants, and whether K is on.
use Rattle.std.specs.Prelude.{◌≡◌, ℕ, List}
use Rattle.theory.specs.Terms.{Term}
use Rattle.theory.specs.Signatures.{Signature}
use Rattle.theory.specs.WellFormed.{provisional}
use Rattle.kernel_reduce.specs.Entries.{body_at, family_at}

-- two signatures from which the same is read
pub record AreReadAlike (S T : Signature) : Type 0 where
  pub families : (n : ℕ) → family_at S n ≡ family_at T n
  pub bodies : (n : ℕ) → body_at S n ≡ body_at T n
  pub has_k : S.has_k ≡ T.has_k

-- A function at the end of a signature, as a provisional constant, is not read.
abbrev pub FunctionIsNotRead : Type 0
FunctionIsNotRead = (S : Signature) (name : List ℕ) (type : Term) → AreReadAlike S (provisional S name type)
