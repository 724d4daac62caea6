-- Families as declared, over plain terms, and the meanings of the code's.
use Rattle.std.specs.Prelude.{ℕ, List, ◌∷◌, map}
use Rattle.theory.specs.Terms.{Term}
use Rattle.theory.specs.Telescopes.{Telescope}
use Rattle.core_terms.specs.Meanings.{tree_of, tele_of}
use Rattle.core_sig.specs.declared.raw.RawCon.{RawCon}
use Rattle.core_sig.specs.declared.raw.MutualRaw.{MutualRaw as MutualRawOfCode}
use Rattle.core_sig.specs.declared.raw.RawFamily.{RawFamily as RawFamilyOfCode}
use Rattle.core_sig.specs.declared.raw.RawMember.{RawMember as RawMemberOfCode}

-- a constructor as declared: in its type the family has the number that it will have in the signature
pub record RawConstructor : Type 0 where
  pub name : List ℕ
  pub type : Term

-- a family as declared: its type and the types of its constructors are under the parameters
pub record RawFamily : Type 0 where
  pub name : List ℕ
  pub parameters : Telescope
  pub type : Term
  pub constructors : List RawConstructor

-- the names that a family declares, its own first
abbrev pub raw_names : RawFamily → List (List ℕ)
raw_names raw = raw.name ∷ map (λ c. c.name) raw.constructors

abbrev pub raw_constructor_of : RawCon → RawConstructor
raw_constructor_of c = record { name = c.name; type = tree_of c.ty }

abbrev pub raw_of : RawFamilyOfCode → RawFamily
raw_of f = record {
  name = f.name;
  parameters = tele_of f.params;
  type = tree_of f.ty;
  constructors = map raw_constructor_of f.cons;
}

-- one of several families that refer to each other: in the types of constructors the first member is the constant after all entries, and
-- the others follow it
pub record RawMember : Type 0 where
  pub name : List ℕ
  pub type : Term
  pub constructors : List RawConstructor

-- Members with shared parameters, and the names of the packed family, of the tag family and of the tags. The types of members and of
-- constructors are under the parameters.
pub record MutualRaw : Type 0 where
  pub parameters : Telescope
  pub members : List RawMember
  pub family : List ℕ
  pub tag : List ℕ
  pub tags : List (List ℕ)

abbrev pub member_of : RawMemberOfCode → RawMember
member_of m = record { name = m.name; type = tree_of m.ty; constructors = map raw_constructor_of m.cons }

abbrev pub mutual_of : MutualRawOfCode → MutualRaw
mutual_of d = record {
  parameters = tele_of d.params;
  members = map member_of d.members;
  family = d.family;
  tag = d.tag;
  tags = d.tags;
}
