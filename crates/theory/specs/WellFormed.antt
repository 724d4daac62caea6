-- Well-formed signatures: names are all different, and each entry is well formed over those before it.
use Rattle.std.specs.Prelude.{◌≡◌, ◌≢◌, ◌⊎◌, ℕ, ◌≤◌, ◌<◌, IsTrue, List, [], ◌∷◌, ◌++◌, map, length, take, AllPairs, All, Contains}
use Rattle.theory.specs.Terms.{Term, Sort, Const, top}
use Rattle.theory.specs.Telescopes.{Context, Telescope, context_behind}
use Rattle.theory.specs.Families.{Argument, Plain, Recursive, Constructor, Family, IsPositive, without_constructors, level_of, index_types, family_type, constructor_type, constructor_telescope}
use Rattle.theory.specs.Eliminators.{eliminator_type}
use Rattle.theory.specs.Signatures.{Signature, Entry, FamilyOf, EliminatorAt, AxiomKAt, Definition, IsEntryAt, TypeOf, HasIdentity, names, axiom_k_type}
use Rattle.theory.specs.Typing.{Has, HasSort}

-- the signature with one entry more
abbrev pub pushed : Signature → Entry → Signature
pushed S e = record { entries = S.entries ++ e ∷ []; has_k = S.has_k }

-- the signature cut to its first n entries
abbrev pub first_entries : Signature → ℕ → Signature
first_entries S n = record { entries = take n S.entries; has_k = S.has_k }

-- each type of a telescope has a sort of the level that is kept for it, none above the family's level
pub data HasLevels (S : Signature) (level : ℕ) : Context → Telescope → List ℕ → Type 0 where
  none : {G : Context} → HasLevels S level G [] []
  more : {G : Context} {a : Term} {tele : Telescope} {i : ℕ} {levels : List ℕ} → Has S G a (Sort i) → i ≤ level
      → HasLevels S level (a ∷ G) tele levels → HasLevels S level G (a ∷ tele) (i ∷ levels)

-- one target for each index
abbrev pub HasTargets : Family → Argument → Type 0
HasTargets f (Plain type level) = Unit {0}
HasTargets f (Recursive inner targets level) = length targets ≡ length f.indices

-- a constructor of family n with the record f, over a signature that has the family
pub record IsConstructor (S : Signature) (n : ℕ) (f : Family) (c : Constructor) : Type 0 where
  pub type : HasSort S [] (constructor_type n f c)
  pub levels : HasLevels S f.level (context_behind [] f.parameters) (constructor_telescope n f c) (map level_of c.arguments)
  pub targets : length c.targets ≡ length f.indices
  pub argument_targets : All (HasTargets f) c.arguments

-- A family over the signature before it. Its constructors are typed over an entry of it that has none yet.
pub record IsFamily (S : Signature) (f : Family) : Type 0 where
  pub level : f.level < top
  pub type : HasSort S [] (family_type f)
  pub indices : HasLevels S f.level (context_behind [] f.parameters) (index_types f) (map (λ i. i.1) f.indices)
  pub constructors : All (IsConstructor (pushed S (FamilyOf (without_constructors f))) (length S.entries) f) f.constructors
  pub positive : IsPositive (length S.entries) f

pub record IsEliminator (S : Signature) (n m : ℕ) (f : Family) : Type 0 where
  pub family : IsEntryAt S n (FamilyOf f)
  pub level : m < top
  pub type : HasSort S [] (eliminator_type n f m)
  pub new : ¬ Contains S.entries (EliminatorAt n m)

pub record IsAxiomK (S : Signature) (i m : ℕ) : Type 0 where
  pub on : IsTrue S.has_k
  pub identity : HasIdentity S i
  pub level : m < top
  pub type : HasSort S [] (axiom_k_type i m)
  pub new : ¬ Contains S.entries (AxiomKAt i m)

pub record IsDefinition (S : Signature) (type body : Term) : Type 0 where
  pub type_sort : HasSort S [] type
  pub body_type : Has S [] body type

-- an entry over the signature before it
pub data IsEntry (S : Signature) : Entry → Type 0 where
  family : {f : Family} → IsFamily S f → IsEntry S (FamilyOf f)
  eliminator : {n m : ℕ} (f : Family) → IsEliminator S n m f → IsEntry S (EliminatorAt n m)
  axiom_k : {i m : ℕ} → IsAxiomK S i m → IsEntry S (AxiomKAt i m)
  definition : {name : List ℕ} {type body : Term} → IsDefinition S type body → IsEntry S (Definition name type body)

pub record IsWellFormed (S : Signature) : Type 0 where
  pub distinct : AllPairs (λ x y. x ≢ y) (names S)
  pub each : (n : ℕ) (e : Entry) → IsEntryAt S n e → IsEntry (first_entries S n) e

-- a definition that has a type and no body yet, after the entries of S
abbrev pub provisional : Signature → List ℕ → Term → Signature
provisional S name type = pushed S (Definition name type (Const (length S.entries)))

-- the signature is well formed, or it is so up to a provisional entry at its end
pub data IsWellFormedSoFar : Signature → Type 0 where
  whole : {S : Signature} → IsWellFormed S → IsWellFormedSoFar S
  with_provisional : (S : Signature) (name : List ℕ) (type : Term) → IsWellFormed S → AllPairs (λ x y. x ≢ y) (names (provisional S name type))
      → HasSort S [] type → IsWellFormedSoFar (provisional S name type)

-- The condition of the laws of typing on a signature: each entry's type has a sort, and each body has its type or is the provisional
-- constant.
pub record IsTyped (S : Signature) : Type 0 where
  pub types : {t a : Term} → TypeOf S t a → HasSort S [] a
  pub bodies : {n : ℕ} {name : List ℕ} {type body : Term} → IsEntryAt S n (Definition name type body) → (body ≡ Const n) ⊎ Has S [] body type
