-- Records that are read from a line: what of them the line shows, and what it leaves open.
use Rattle.std.specs.Prelude.{◌≡◌, ℕ, map, length, All}
use Rattle.theory.specs.Terms.{Term, Fam}
use Rattle.theory.specs.Telescopes.{products, applied, variables, weaken_by}
use Rattle.theory.specs.Families as pure
use Rattle.theory.specs.Families.{level_of}
use Rattle.theory.specs.Signatures.{Entry, FamilyOf}
use Rattle.core_terms.specs.Meanings.{tree_of, tele_of}
use Rattle.core_sig.specs.Raw.{RawConstructor}
use Rattle.core_sig.specs.declared.family.Arg.{Arg}
use Rattle.core_sig.specs.declared.family.Constructor.{Constructor}

-- the type of an argument or index, with the level that is kept for it
abbrev pub typed : Arg → Term × ℕ
typed a = (tree_of a.ty, a.level)

abbrev pub with_level_zero : Term → Term × ℕ
with_level_zero t = (t, 0)

-- the end of a constructor's type: family number n at its p parameters and the targets
abbrev pub end_of_constructor : ℕ → ℕ → Constructor → Term
end_of_constructor n p c = applied (applied (Fam n) (map (weaken_by (length c.args)) (variables p))) (tele_of c.targets)

-- the type of a constructor of family number n with p parameters, under the parameters
abbrev pub type_of_constructor : ℕ → ℕ → Constructor → Term
type_of_constructor n p c = products (map (λ a. tree_of a.ty) c.args) (end_of_constructor n p c)

-- the constructor as the line shows it
abbrev pub constructor_shown : ℕ → ℕ → Constructor → RawConstructor
constructor_shown n p c = record { name = c.name; type = type_of_constructor n p c }

-- the levels that a family keeps for its indices and arguments, which no line shows, are 0
pub record HasLevelsZero (f : pure.Family) : Type 0 where
  pub indices : All (λ i. i.1 ≡ 0) f.indices
  pub arguments : All (λ c. All (λ a. level_of a ≡ 0) c.arguments) f.constructors

-- a family among entries has these levels 0
abbrev pub HasEntryLevelsZero : Entry → Type 0
HasEntryLevelsZero (FamilyOf f) = HasLevelsZero f
HasEntryLevelsZero _ = Unit {0}
