-- Inductive families (Dybjer, "Inductive families", 1994) as records, and the types of the symbols that they bring along.
--
-- A record is over the variables of its parameters. The type of constructor argument j is over the parameters and
-- the arguments before it, and the targets are over the parameters and all arguments.
use Rattle.std.specs.Prelude.{◌≡◌, ℕ, Bool, false, ◌||◌, ◌==◌, List, [], ◌∷◌, map, length}
use Rattle.std.specs.List.{All}
use Rattle.theory.specs.Terms.{Term, Var, Sort, Pi, Lam, App, Let, Fam, Con, Elim}
use Rattle.theory.specs.Substitutions.{weaken, ups, inst}
use Rattle.theory.specs.Telescopes.{Telescope, products, applied, variables, weaken_by}

-- A constructor argument, with the level of its type. `Recursive inner targets level` has the type
-- `(inner) -> D p targets` with the declared parameters p; every other argument is plain.
pub data Argument : Type 0 where
  Plain : Term → ℕ → Argument
  Recursive : Telescope → List Term → ℕ → Argument
  deriving Discrete as Argument-discrete

pub record Constructor : Type 0 where
  pub name : List ℕ
  pub arguments : List Argument
  pub targets : List Term

-- An index is its type and the level of its type.
pub record Family : Type 0 where
  pub name : List ℕ
  pub parameters : Telescope
  pub indices : List (Term × ℕ)
  pub level : ℕ
  pub constructors : List Constructor

-- the family as it is before it has constructors
abbrev pub without_constructors : Family → Family
without_constructors f = record f { constructors = [] }

abbrev pub level_of : Argument → ℕ
level_of (Plain type level) = level
level_of (Recursive inner targets level) = level

abbrev pub index_types : Family → Telescope
index_types f = map (λ i. i.0) f.indices

-- the type of a family: (p) -> (I) -> Type l
abbrev pub family_type : Family → Term
family_type f = products f.parameters (products (index_types f) (Sort f.level))

-- (inner) -> D p targets, where `s` has a term for each variable of the record and `head` is D p
abbrev pub recursive_type : (ℕ → Term) → Term → Telescope → List Term → Term
recursive_type s head [] targets = applied head (map (inst s) targets)
recursive_type s head (a ∷ inner) targets = Pi (inst s a) (recursive_type (ups s) (weaken head) inner targets)

abbrev pub argument_type : (ℕ → Term) → Term → Argument → Term
argument_type s head (Plain type level) = inst s type
argument_type s head (Recursive inner targets level) = recursive_type s head inner targets

-- the telescope of a constructor's arguments
abbrev pub argument_types : (ℕ → Term) → Term → List Argument → Telescope
argument_types s head [] = []
argument_types s head (a ∷ arguments) = argument_type s head a ∷ argument_types (ups s) (weaken head) arguments

-- family number n at its parameters, in their context
abbrev pub family_head : ℕ → Family → Term
family_head n f = applied (Fam n) (variables (length f.parameters))

-- the arguments' telescope in the context of the parameters
abbrev pub constructor_telescope : ℕ → Family → Constructor → Telescope
constructor_telescope n f c = argument_types Var (family_head n f) c.arguments

-- the type of a constructor: (p) -> (Ac) -> D p us_c
abbrev pub constructor_type : ℕ → Family → Constructor → Term
constructor_type n f c =
    products f.parameters (products (constructor_telescope n f c)
    (applied (weaken_by (length c.arguments) (family_head n f)) c.targets))

-- Positivity: neither argument types nor targets mention the family, except that a recursive argument's type ends in it.

-- a symbol of family n occurs in the term
abbrev pub mentions : ℕ → Term → Bool
mentions n (Pi a b) = mentions n a || mentions n b
mentions n (Lam a b) = mentions n a || mentions n b
mentions n (App f a) = mentions n f || mentions n a
mentions n (Let a t b) = mentions n a || (mentions n t || mentions n b)
mentions n (Fam f) = f == n
mentions n (Con f c) = f == n
mentions n (Elim f m) = f == n
mentions n _ = false

abbrev pub Lacks : ℕ → Term → Type 0
Lacks n t = mentions n t ≡ false

abbrev pub IsPositiveArgument : ℕ → Argument → Type 0
IsPositiveArgument n (Plain type level) = Lacks n type
IsPositiveArgument n (Recursive inner targets level) = All (Lacks n) inner × All (Lacks n) targets

pub record IsPositiveConstructor (n : ℕ) (c : Constructor) : Type 0 where
  pub arguments : All (IsPositiveArgument n) c.arguments
  pub targets : All (Lacks n) c.targets

abbrev pub IsPositive : ℕ → Family → Type 0
IsPositive n f = All (IsPositiveConstructor n) f.constructors
