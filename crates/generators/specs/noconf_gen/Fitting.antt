-- The conditions of no confusion: terms and telescopes that telescopic equality takes. Over others the whole is too high.
use Rattle.std.specs.Prelude.{ℕ, ◌+◌, ◌≤◌, ◌<◌, List, [], ◌∷◌, length, take, max}
use Rattle.theory.specs.Terms.{Term, height, top}
use Rattle.theory.specs.Families.{Family}
use Rattle.theory.specs.Signatures.{Signature, FamilyOf, IsEntryAt}
use Rattle.core_terms.specs.Bounds.{most_height}
use Rattle.core_sig.specs.Shapes.{ArgumentShape, ConstructorShape, Shape}

-- the levels of no confusion of family number n into Type m fit: D!case.(j+1) is there for the level j of what it says
abbrev pub HasConfusionLevel : Signature → (n m : ℕ) → Type 0
HasConfusionLevel S n m = (f : Family) → IsEntryAt S n (FamilyOf f) → max f.level (m + 1) + 1 < top

-- terms that are not too high
abbrev pub AreLow : List Term → Type 0
AreLow [] = Unit {0}
AreLow (t ∷ terms) = (height t ≤ most_height) × AreLow terms

-- types that are not too high
abbrev pub HaveLowTypes : List ArgumentShape → Type 0
HaveLowTypes [] = Unit {0}
HaveLowTypes (a ∷ arguments) = (height a.type ≤ 2000) × HaveLowTypes arguments

pub record FitsIndices (f : Shape) : Type 0 where
  pub parameters : length f.parameters ≤ 1000
  pub indices : length f.indices < 1000
  pub types : HaveLowTypes f.indices

-- a constructor of a family with p parameters and k indices, as a member
pub record FitsMember (p k : ℕ) (c : ConstructorShape) : Type 0 where
  pub arguments : p + length c.arguments < 2000
  pub targets : AreLow (take k c.targets)

-- and one whose arguments are compared too
pub record FitsArguments (p k : ℕ) (c : ConstructorShape) : Type 0 where
  pub member : FitsMember p k c
  pub arguments : p + length c.arguments ≤ 1000
  pub types : HaveLowTypes c.arguments

abbrev pub FitMembers : (p k : ℕ) → List ConstructorShape → Type 0
FitMembers p k [] = Unit {0}
FitMembers p k (c ∷ constructors) = FitsMember p k c × FitMembers p k constructors

-- the constructor c that no confusion is about
pub record FitsSubject (f : Shape) (c : ConstructorShape) : Type 0 where
  pub indices : FitsIndices f
  pub arguments : FitsArguments (length f.parameters) (length f.indices) c

-- the constructor c, with all constructors as members
pub record FitsConfusion (f : Shape) (c : ConstructorShape) : Type 0 where
  pub subject : FitsSubject f c
  pub constructors : length f.constructors ≤ 2000
  pub members : FitMembers (length f.parameters) (length f.indices) f.constructors
