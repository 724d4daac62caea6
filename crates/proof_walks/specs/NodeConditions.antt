-- The conditions on a variable that is split.
use Rattle.std.specs.Prelude.{◌≡◌, ◌<◌, ℕ, Bool, true}
use Rattle.theory.specs.Signatures.{Signature}
use Rattle.problems.specs.MemberConditions.{IsMember}
use Rattle.proof_walks.specs.declared.nodes.Variable.{Variable}

-- one of n variables, at a node that splits
pub record IsVariableOf (S : Signature) (n : ℕ) (may : Bool) (v : Variable) : Type 0 where
  pub below : v.number < n
  pub member : IsMember S n v.member
  pub splits : may ≡ true
