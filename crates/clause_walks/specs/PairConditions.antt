-- The conditions of the code's calls: pairs of a clause over few variables, whose terms are scoped and no higher than 2,000.
use Rattle.std.specs.Prelude.{◌≡◌, ◌≤◌, ℕ, true, List, length, All}
use Rattle.theory.specs.Terms.{Term}
use Rattle.theory.specs.Telescopes.{Telescope}
use Rattle.theory.specs.Signatures.{Signature}
use Rattle.theory.specs.SignatureScopes.{IsScoped, IsScopedTelescope}
use Rattle.unification.specs.Outcomes.{Outcome, Solved}
use Rattle.problems.specs.Conditions.{most_levels}
use Rattle.case_trees.specs.Pairs.{Pairs, terms_in, are_low_pairs}
use Rattle.case_trees.specs.Points.{Point}
use Rattle.clause_walks.specs.CodeWalks.{Next, GoesOn, Ended}
use Rattle.clause_walks.specs.Forgetting.{CoverAll}
use Rattle.clause_walks.specs.PointConditions.{IsKeptPoint}

pub record AreKeptPairs (S : Signature) (n : ℕ) (pairs : Pairs) : Type 0 where
  pub scoped : All (IsScoped S n) (terms_in pairs)
  pub low : are_low_pairs pairs ≡ true
  pub few : n ≤ most_levels

-- the state of a walk: each pair with a constructor is at a shared term that is one
pub record IsWalkState (S : Signature) (p : Point) (now : Pairs) : Type 0 where
  pub point : IsKeptPoint S p
  pub pairs : AreKeptPairs S (length p.context) now
  pub covers : CoverAll S now p.terms

-- a solution over a scoped context
pub record IsSolvedIn (S : Signature) (G : Telescope) (us : List Term) : Type 0 where
  pub context : IsScopedTelescope S 0 G
  pub solution : All (IsScoped S (length G)) us

abbrev pub IsSolving : Signature → Outcome → Type 0
IsSolving S (Solved steps context solution) = IsSolvedIn S context solution
IsSolving S outcome = Unit {0}

-- a turn leads to such a state, where it goes on
abbrev pub LeadsOn : Signature → Next → Type 0
LeadsOn S (GoesOn p pairs) = IsWalkState S p pairs
LeadsOn S (Ended w) = Unit {0}
