-- A term is scoped over n variables if each free variable is below n and each constant, family and constructor that it
-- names is in the signature.
use Rattle.std.specs.Prelude.{◌≡◌, ◌⊎◌, ℕ, ◌+◌, ◌≤◌, ◌<◌, List, [], ◌∷◌, length, All}
use Rattle.theory.specs.Terms.{Term, Pi, Lam, App, Let, Const, Fam, Con, Elim, free_of, top}
use Rattle.theory.specs.Telescopes.{Context, Telescope}
use Rattle.theory.specs.Families.{Argument, Plain, Recursive, Constructor, Family, index_types}
use Rattle.theory.specs.Signatures.{Entry, FamilyOf, EliminatorAt, AxiomKAt, Definition, Signature, IsEntryAt, equality}
use Rattle.theory.specs.WellFormed.{first_entries}

-- entry n is a definition
abbrev pub IsConstantNumber : Signature → ℕ → Type 0
IsConstantNumber S n = (name : List ℕ) × (type : Term) × (body : Term) × IsEntryAt S n (Definition name type body)

-- entry n is a family
abbrev pub IsFamilyNumber : Signature → ℕ → Type 0
IsFamilyNumber S n = (f : Family) × IsEntryAt S n (FamilyOf f)

-- entry n is a family with more than c constructors
abbrev pub IsConstructorNumber : Signature → ℕ → ℕ → Type 0
IsConstructorNumber S n c = (f : Family) × IsEntryAt S n (FamilyOf f) × (c < length f.constructors)

-- each constant, family and constructor number has its entry
abbrev pub HasEntries : Signature → Term → Type 0
HasEntries S (Pi a b) = HasEntries S a × HasEntries S b
HasEntries S (Lam a b) = HasEntries S a × HasEntries S b
HasEntries S (App f a) = HasEntries S f × HasEntries S a
HasEntries S (Let a t b) = HasEntries S a × HasEntries S t × HasEntries S b
HasEntries S (Const n) = IsConstantNumber S n
HasEntries S (Fam n) = IsFamilyNumber S n
HasEntries S (Con n c) = IsConstructorNumber S n c
HasEntries S (Elim n m) = IsFamilyNumber S n
HasEntries S _ = Unit {0}

pub record IsScoped (S : Signature) (n : ℕ) (t : Term) : Type 0 where
  pub variables : free_of t ≤ n
  pub entries : HasEntries S t

-- each type of a telescope after n variables is scoped over these and the types before it
abbrev pub IsScopedTelescope : Signature → ℕ → Telescope → Type 0
IsScopedTelescope S n [] = Unit {0}
IsScopedTelescope S n (a ∷ tele) = IsScoped S n a × IsScopedTelescope S (n + 1) tele

-- a scoped context, which lists its types from the nearest one on
abbrev pub IsScopedContext : Signature → Context → Type 0
IsScopedContext S [] = Unit {0}
IsScopedContext S (a ∷ G) = IsScoped S (length G) a × IsScopedContext S G

-- an argument after n variables, with a level that a family may have
abbrev pub IsScopedArgument : Signature → ℕ → Argument → Type 0
IsScopedArgument S n (Plain type level) = IsScoped S n type × (level < top)
IsScopedArgument S n (Recursive inner targets level) =
    IsScopedTelescope S n inner × All (IsScoped S (n + length inner)) targets × (level < top)

abbrev pub IsScopedArguments : Signature → ℕ → List Argument → Type 0
IsScopedArguments S n [] = Unit {0}
IsScopedArguments S n (a ∷ arguments) = IsScopedArgument S n a × IsScopedArguments S (n + 1) arguments

-- a constructor after n parameters, of a family with `count` indices
pub record IsScopedConstructor (S : Signature) (n count : ℕ) (c : Constructor) : Type 0 where
  pub arguments : IsScopedArguments S n c.arguments
  pub targets : All (IsScoped S (n + length c.arguments)) c.targets
  pub target_count : length c.targets ≡ count

-- Entry n of S is a family: its terms are over the entries before it, and its constructors may also name the family.
pub record IsScopedFamily (S : Signature) (n : ℕ) (f : Family) : Type 0 where
  pub parameters : IsScopedTelescope (first_entries S n) 0 f.parameters
  pub indices : IsScopedTelescope (first_entries S n) (length f.parameters) (index_types f)
  pub level : f.level < top
  pub index_levels : All (λ i. i.1 < top) f.indices
  pub constructors : All (IsScopedConstructor (first_entries S (n + 1)) (length f.parameters) (length f.indices)) f.constructors

-- entry n of S is the last one, a definition without a body
pub record IsProvisional (S : Signature) (n : ℕ) (body : Term) : Type 0 where
  pub itself : body ≡ Const n
  pub last : length S.entries ≡ n + 1

-- Entry n of S. The family of an eliminator, and the identity family with its reflexivity that the type of K names, are
-- among the entries before it.
abbrev pub IsScopedEntry : Signature → ℕ → Entry → Type 0
IsScopedEntry S n (FamilyOf f) = IsScopedFamily S n f
IsScopedEntry S n (EliminatorAt g m) = IsFamilyNumber (first_entries S n) g × (m < top)
IsScopedEntry S n (AxiomKAt i m) =
    (i < top) × (m < top) × IsConstructorNumber (first_entries S n) (equality i) 0
IsScopedEntry S n (Definition name type body) =
    IsScoped (first_entries S n) 0 type × (IsScoped (first_entries S n) 0 body ⊎ IsProvisional S n body)

-- each entry is scoped over those before it
abbrev pub IsScopedSignature : Signature → Type 0
IsScopedSignature S = (n : ℕ) (e : Entry) → IsEntryAt S n e → IsScopedEntry S n e
