-- Records without free variables: each term has no variables beyond those that it is over.
use Rattle.std.specs.Prelude.{ℕ, ◌+◌, ◌≤◌, List, [], ◌∷◌, length}
use Rattle.std.specs.List.{All}
use Rattle.theory.specs.Terms.{free_of}
use Rattle.theory.specs.Telescopes.{Telescope}
use Rattle.theory.specs.Families.{Argument, Plain, Recursive, Constructor, Family, index_types}

-- a telescope over n variables
abbrev pub IsTelescopeOver : ℕ → Telescope → Type 0
IsTelescopeOver n [] = Unit {0}
IsTelescopeOver n (a ∷ tele) = (free_of a ≤ n) × IsTelescopeOver (n + 1) tele

-- an argument over n variables
abbrev pub IsArgumentOver : ℕ → Argument → Type 0
IsArgumentOver n (Plain type level) = free_of type ≤ n
IsArgumentOver n (Recursive inner targets level) =
    IsTelescopeOver n inner × All (λ t. free_of t ≤ n + length inner) targets

-- arguments, each over those before it
abbrev pub AreArgumentsOver : ℕ → List Argument → Type 0
AreArgumentsOver n [] = Unit {0}
AreArgumentsOver n (a ∷ arguments) = IsArgumentOver n a × AreArgumentsOver (n + 1) arguments

-- a constructor of a family with n parameters
pub record IsConstructorOver (n : ℕ) (c : Constructor) : Type 0 where
  pub arguments : AreArgumentsOver n c.arguments
  pub targets : All (λ t. free_of t ≤ n + length c.arguments) c.targets

-- a family
pub record IsClosedFamily (f : Family) : Type 0 where
  pub parameters : IsTelescopeOver 0 f.parameters
  pub indices : IsTelescopeOver (length f.parameters) (index_types f)
  pub constructors : All (IsConstructorOver (length f.parameters)) f.constructors
