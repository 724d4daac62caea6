-- Where no symbol of axiom K is: in lists of terms, in records of families and in signatures.
use Rattle.std.specs.Prelude.{ℕ, List, [], ◌∷◌}
use Rattle.theory.specs.Terms.{Term}
use Rattle.theory.specs.Families.{Argument, Plain, Recursive, Constructor}
use Rattle.theory.specs.Signatures.{Entry, FamilyOf, EliminatorAt, AxiomKAt, Definition, Signature, IsEntryAt, TypeOf}
use Rattle.theory.specs.AxiomKLaws.{LacksAxiomK}

-- none of the terms holds a symbol of K
abbrev pub Lack : List Term → Type 0
Lack [] = Unit {0}
Lack (t ∷ terms) = LacksAxiomK t × Lack terms

-- ---- signatures

abbrev pub ArgumentLacks : Argument → Type 0
ArgumentLacks (Plain type level) = LacksAxiomK type
ArgumentLacks (Recursive inner targets level) = Lack inner × Lack targets

abbrev pub ArgumentsLack : List Argument → Type 0
ArgumentsLack [] = Unit {0}
ArgumentsLack (a ∷ arguments) = ArgumentLacks a × ArgumentsLack arguments

-- the arguments and the targets of a constructor
pub record ConstructorLacks (c : Constructor) : Type 0 where
  pub arguments : ArgumentsLack c.arguments
  pub targets : Lack c.targets

abbrev pub ConstructorsLack : List Constructor → Type 0
ConstructorsLack [] = Unit {0}
ConstructorsLack (c ∷ constructors) = ConstructorLacks c × ConstructorsLack constructors

-- the parts of an entry that reduction uses hold no K
abbrev pub EntryLacks : Entry → Type 0
EntryLacks (FamilyOf f) = ConstructorsLack f.constructors
EntryLacks (EliminatorAt n m) = Unit {0}
EntryLacks (AxiomKAt i m) = Unit {0}
EntryLacks (Definition name type body) = LacksAxiomK body

-- no entry holds K for reduction, and no type of a symbol holds it
pub record SignatureLacks (S : Signature) : Type 0 where
  pub entries : (n : ℕ) (e : Entry) → IsEntryAt S n e → EntryLacks e
  pub types : (t a : Term) → TypeOf S t a → LacksAxiomK a
