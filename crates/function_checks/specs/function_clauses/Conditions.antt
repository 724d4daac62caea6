-- The conditions on a walk and on the right side or the scrutinee after it.
use Rattle.std.specs.Prelude.{◌<◌, ℕ, ◌+◌, length}
use Rattle.theory.specs.Signatures.{Signature}
use Rattle.theory.specs.SignatureScopes.{HasEntries}
use Rattle.core_terms.specs.CaseTrees.{Walk}
use Rattle.core_terms.specs.Clauses as clause
use Rattle.core_terms.specs.Clauses.{Right}
use Rattle.case_trees.specs.Scoped.{IsScopedWalk}
use Rattle.resolve.specs.Scoping.{AreClauses}
use Rattle.unification.specs.ScopedStates.{IsReady}
use Rattle.problems.specs.Conditions.{most_levels}

-- a walk over a signature, with room for one variable more
pub record IsWalkOver (S : Signature) (w : Walk) : Type 0 where
  pub ready : IsReady S
  pub scoped : IsScopedWalk S w
  pub few : length w.ctx < most_levels

-- A right side or scrutinee names entries of the signature, and the clauses inside have one pattern more.
abbrev pub IsRightSide : Signature → (columns : ℕ) → Right → Type 0
IsRightSide S k (clause.Side t) = HasEntries S t
IsRightSide S k (clause.With t inner) = HasEntries S t × AreClauses S (k + 1) inner
IsRightSide S k clause.Absurd = Unit {0}
