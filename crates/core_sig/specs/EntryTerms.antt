-- Properties of each term of an entry, with the number of variables that the term is over.
use Rattle.std.specs.Prelude.{ℕ, ◌+◌, List, [], ◌∷◌, length, All}
use Rattle.theory.specs.Terms.{Term}
use Rattle.theory.specs.Telescopes.{Telescope}
use Rattle.theory.specs.Families.{Argument, Plain, Recursive, Constructor, Family, index_types}
use Rattle.theory.specs.Signatures.{Entry, FamilyOf, Definition}

-- a telescope over n variables
abbrev pub EachInTelescope : (ℕ → Term → Type 0) → ℕ → Telescope → Type 0
EachInTelescope P n [] = Unit {0}
EachInTelescope P n (a ∷ tele) = P n a × EachInTelescope P (n + 1) tele

-- an argument over n variables
abbrev pub EachInArgument : (ℕ → Term → Type 0) → ℕ → Argument → Type 0
EachInArgument P n (Plain type level) = P n type
EachInArgument P n (Recursive inner targets level) = EachInTelescope P n inner × All (P (n + length inner)) targets

-- arguments, each over those before it
abbrev pub EachInArguments : (ℕ → Term → Type 0) → ℕ → List Argument → Type 0
EachInArguments P n [] = Unit {0}
EachInArguments P n (a ∷ arguments) = EachInArgument P n a × EachInArguments P (n + 1) arguments

-- a constructor of a family with n parameters
pub record EachInConstructor (P : ℕ → Term → Type 0) (n : ℕ) (c : Constructor) : Type 0 where
  pub arguments : EachInArguments P n c.arguments
  pub targets : All (P (n + length c.arguments)) c.targets

pub record EachInFamily (P : ℕ → Term → Type 0) (f : Family) : Type 0 where
  pub parameters : EachInTelescope P 0 f.parameters
  pub indices : EachInTelescope P (length f.parameters) (index_types f)
  pub constructors : All (EachInConstructor P (length f.parameters)) f.constructors

-- every term of an entry has P
abbrev pub EachTerm : (ℕ → Term → Type 0) → Entry → Type 0
EachTerm P (FamilyOf f) = EachInFamily P f
EachTerm P (Definition name type body) = P 0 type × P 0 body
EachTerm P e = Unit {0}
