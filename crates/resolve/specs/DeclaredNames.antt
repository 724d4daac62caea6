-- The names that declarations bring.
use Rattle.std.specs.Prelude.{◌≡◌, ◌≢◌, ℕ, List, [], ◌∷◌, None, All}
use Rattle.theory.specs.Signatures.{Signature}
use Rattle.core_sig.specs.Names.{find}
use Rattle.core_sig.specs.Raw.{RawMember, MutualRaw}
use Rattle.surface_syntax.specs.Trees as surf
use Rattle.surface_syntax.specs.declared.tree.Word.{Word}

-- the first of the names that families which refer to each other declare
abbrev pub first_name : List surf.Member → Word → Word
first_name [] family = family
first_name (member ∷ members) family = member.name

-- the name of a declaration; of families that refer to each other it is the first one's
abbrev pub declared_word : surf.Decl → Word
declared_word (surf.Def x ty body) = x
declared_word (surf.Decide x family decision) = x
declared_word (surf.Data x params ty cons) = x
declared_word (surf.Mutual params members family tag tags) = first_name members family
declared_word (surf.Fun x ty clauses) = x

-- the declared name is the one that is written, and the signature has no such name
pub record IsNewName (S : Signature) (x : Word) (name : List ℕ) : Type 0 where
  pub is : name ≡ x.text
  pub new : find S name ≡ None

-- the first member has the declaration's name, and the signature has no such name
abbrev pub HasFirstName : Signature → Word → List RawMember → Type 0
HasFirstName S x [] = Unit {0}
HasFirstName S x (m ∷ members) = IsNewName S x m.name

-- So it is with the first member. The signature has neither the packed family's name nor that of the tag family, and the former is none of
-- those of the tag family and of the tags.
pub record AreNewNames (S : Signature) (d : surf.Decl) (raw : MutualRaw) : Type 0 where
  pub first : HasFirstName S (declared_word d) raw.members
  pub family : find S raw.family ≡ None
  pub tag : find S raw.tag ≡ None
  pub apart : All (λ name. raw.family ≢ name) (raw.tag ∷ raw.tags)
