-- Conditions on a variable that the search reaches, and on the runs there.
use Rattle.std.specs.Prelude.{◌≡◌, ◌<◌, ℕ, ◌+◌, List, [], ◌∷◌, length}
use Rattle.theory.specs.Signatures.{Signature}
use Rattle.theory.specs.SignatureScopes.{IsScoped, IsScopedTelescope}
use Rattle.unification.specs.Outcomes.{Outcome, Stuck}
use Rattle.unification.specs.ScopedStates.{IsScopedOutcome, IsScopedProblem}
use Rattle.unification.specs.States.{Problem}
use Rattle.case_trees.specs.Standing.{Runs}
use Rattle.clause_walks.specs.Reaching.{RunEnd, Reached}

abbrev pub IsNotStuck : Outcome → Type 0
IsNotStuck (Stuck steps context u v why) = ⊥
IsNotStuck outcome = Unit {0}

-- the end of a run, not stuck, of a problem of a constructor at a context of n variables
pub record IsRunEnd (S : Signature) (n : ℕ) (r : RunEnd) : Type 0 where
  pub problem : Problem
  pub whole : IsScopedProblem S problem
  pub runs : Runs S problem r.outcome
  pub at : r.context ≡ problem.context
  pub count : length r.context ≡ n + r.arguments
  pub context : IsScopedTelescope S 0 r.context
  pub outcome : IsScopedOutcome S (n + r.arguments) r.outcome
  pub ends : IsNotStuck r.outcome

abbrev pub AreRunEnds : Signature → (n : ℕ) → List RunEnd → Type 0
AreRunEnds S n [] = Unit {0}
AreRunEnds S n (r ∷ runs) = IsRunEnd S n r × AreRunEnds S n runs

pub record IsReached (S : Signature) (n : ℕ) (r : Reached) : Type 0 where
  pub variable : r.variable < n
  pub type : IsScoped S n r.type
  pub runs : AreRunEnds S n r.runs
