-- The conditions of the code's calls: points that are scoped, with no term higher than 2,000, in contexts of so few variables that their
-- numbers fit 32 bits.
use Rattle.std.specs.Prelude.{◌≡◌, ◌≤◌, ◌&&◌, Bool, ℕ, List, length, Ok, All}
use Rattle.theory.specs.Terms.{Term, free_of}
use Rattle.theory.specs.Signatures.{Signature}
use Rattle.core_terms.specs.Answers.{is_low, are_low}
use Rattle.problems.specs.Conditions.{most_levels}
use Rattle.case_trees.specs.Points.{Point, bounded_point}
use Rattle.case_trees.specs.Scoped.{IsScopedPoint}

-- no term in the point is too high
abbrev pub is_low_point : Point → Bool
is_low_point p = are_low p.context && (is_low p.goal && (are_low p.substitution && are_low p.terms))

pub record IsKeptPoint (S : Signature) (p : Point) : Type 0 where
  pub scoped : IsScopedPoint S p
  pub low : bounded_point p ≡ Ok p
  pub few : length p.context ≤ most_levels

-- terms over the variables of a context of n
abbrev pub AreOverSo : (n : ℕ) → List Term → Type 0
AreOverSo n terms = All (λ t. free_of t ≤ n) terms
