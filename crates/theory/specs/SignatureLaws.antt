-- The laws of signatures: what a longer one keeps, what a well-formed one has, and how it grows.
use Rattle.std.specs.Prelude.{◌≡◌, ◌≢◌, ℕ, Bool, List, [], ◌++◌, length, AllPairs}
use Rattle.theory.specs.Terms.{Term}
use Rattle.theory.specs.Telescopes.{Context, Telescope}
use Rattle.theory.specs.Families.{Family, Constructor}
use Rattle.theory.specs.Signatures.{Signature, Entry, IsEntryAt, IsPrefix, TypeOf, names, names_of}
use Rattle.theory.specs.Conversion.{Converts, Below}
use Rattle.theory.specs.Typing.{IsContext, Has, HasSort}
use Rattle.theory.specs.WellFormed.{HasLevels, IsConstructor, IsDefinition, IsEntry, IsWellFormed, IsWellFormedSoFar, IsTyped, pushed, first_entries}

-- a signature is a prefix of what is pushed on it,
abbrev pub PushIsLonger : Type 0
PushIsLonger = (S : Signature) (e : Entry) → IsPrefix S (pushed S e)

-- and its first entries are a prefix of it
abbrev pub FirstEntriesArePrefix : Type 0
FirstEntriesArePrefix = (S : Signature) (n : ℕ) → IsPrefix (first_entries S n) S

abbrev pub PrefixReflexive : Type 0
PrefixReflexive = (S : Signature) → IsPrefix S S

abbrev pub PrefixTransitive : Type 0
PrefixTransitive = (S T U : Signature) → IsPrefix S T → IsPrefix T U → IsPrefix S U

-- a longer signature that is cut to the length of the shorter one is that one
abbrev pub CutToPrefix : Type 0
CutToPrefix = (S T : Signature) → IsPrefix S T → first_entries T (length S.entries) ≡ S

-- Weakening of signatures: what holds over a signature holds over a longer one.

-- entries keep their numbers
abbrev pub EntriesOverLonger : Type 0
EntriesOverLonger = (S T : Signature) → IsPrefix S T → (n : ℕ) (e : Entry) → IsEntryAt S n e → IsEntryAt T n e

abbrev pub TypesOverLonger : Type 0
TypesOverLonger = (S T : Signature) → IsPrefix S T → (t a : Term) → TypeOf S t a → TypeOf T t a

abbrev pub ConversionOverLonger : Type 0
ConversionOverLonger = (S T : Signature) → IsPrefix S T → (t u : Term) → Converts S t u → Converts T t u

abbrev pub BelowOverLonger : Type 0
BelowOverLonger = (S T : Signature) → IsPrefix S T → (a b : Term) → Below S a b → Below T a b

abbrev pub ContextsOverLonger : Type 0
ContextsOverLonger = (S T : Signature) → IsPrefix S T → (G : Context) → IsContext S G → IsContext T G

abbrev pub DerivationsOverLonger : Type 0
DerivationsOverLonger = (S T : Signature) → IsPrefix S T → (G : Context) (t a : Term) → Has S G t a → Has T G t a

abbrev pub SortsOverLonger : Type 0
SortsOverLonger = (S T : Signature) → IsPrefix S T → (G : Context) (a : Term) → HasSort S G a → HasSort T G a

abbrev pub LevelsOverLonger : Type 0
LevelsOverLonger =
    (S T : Signature) → IsPrefix S T → (level : ℕ) (G : Context) (tele : Telescope) (levels : List ℕ) →
    HasLevels S level G tele levels → HasLevels T level G tele levels

abbrev pub ConstructorsOverLonger : Type 0
ConstructorsOverLonger =
    (S T : Signature) → IsPrefix S T → (n : ℕ) (f : Family) (c : Constructor) → IsConstructor S n f c → IsConstructor T n f c

abbrev pub DefinitionsOverLonger : Type 0
DefinitionsOverLonger =
    (S T : Signature) → IsPrefix S T → (type body : Term) → IsDefinition S type body → IsDefinition T type body

-- Well-formed signatures.

-- a well-formed signature has what the laws of typing need
abbrev pub WellFormedIsTyped : Type 0
WellFormedIsTyped = (S : Signature) → IsWellFormed S → IsTyped S

-- and so has one that is well formed up to a provisional end
abbrev pub SoFarIsTyped : Type 0
SoFarIsTyped = (S : Signature) → IsWellFormedSoFar S → IsTyped S

abbrev pub EmptyIsWellFormed : Type 0
EmptyIsWellFormed = (k : Bool) → IsWellFormed (record { entries = []; has_k = k })

-- an entry that is well formed over the signature and brings new names may be pushed
abbrev pub PushIsWellFormed : Type 0
PushIsWellFormed =
    (S : Signature) (e : Entry) →
    IsWellFormed S → IsEntry S e → AllPairs (λ x y. x ≢ y) (names (pushed S e)) → IsWellFormed (pushed S e)

-- the names after a push
abbrev pub NamesOfPush : Type 0
NamesOfPush = (S : Signature) (e : Entry) → names (pushed S e) ≡ names S ++ names_of e

-- dropping the last entries
abbrev pub FirstEntriesAreWellFormed : Type 0
FirstEntriesAreWellFormed = (S : Signature) (n : ℕ) → IsWellFormed S → IsWellFormed (first_entries S n)
