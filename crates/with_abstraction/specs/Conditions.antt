-- The conditions of the code: terms are over variables that are few enough for numbers of 32 bits, and no term is higher than 2,000.
use Rattle.std.specs.Prelude.{◌≡◌, ◌≤◌, ℕ, ◌+◌, List, [], ◌∷◌, length}
use Rattle.theory.specs.Terms.{Term, height, free_of}
use Rattle.core_terms.specs.Bounds.{most_height}
use Rattle.with_abstraction.specs.NormalForms.{NormalForms}

-- a term over n variables
pub record IsOver (n : ℕ) (t : Term) : Type 0 where
  pub low : height t ≤ most_height
  pub free : free_of t ≤ n

abbrev pub AreOver : (n : ℕ) → List Term → Type 0
AreOver n [] = Unit {0}
AreOver n (t ∷ terms) = IsOver n t × AreOver n terms

-- the types of a context after j variables, each over those before it
abbrev pub AreTypesOver : (j : ℕ) → List Term → Type 0
AreTypesOver j [] = Unit {0}
AreTypesOver j (a ∷ types) = IsOver j a × AreTypesOver (j + 1) types

-- the terms are no higher than they may be
abbrev pub AreLow : List Term → Type 0
AreLow [] = Unit {0}
AreLow (t ∷ terms) = (height t ≤ most_height) × AreLow terms

-- normal forms in a context of n variables
pub record AreFormsOver (n : ℕ) (m : NormalForms) : Type 0 where
  pub goal : IsOver n m.goal
  pub types : AreTypesOver 0 m.types
  pub count : length m.types ≡ n
  pub scrutinee : IsOver n m.scrutinee
