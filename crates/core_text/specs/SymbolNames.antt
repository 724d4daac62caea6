-- The names by which core text writes the symbols of a signature.
use Rattle.std.specs.Prelude.{ℕ, List, [], ◌++◌, slice_get, Option, None, Some, codes, decimal}
use Rattle.theory.specs.Terms.{Sort}
use Rattle.theory.specs.Families.{Constructor}
use Rattle.theory.specs.Signatures.{Entry, FamilyOf, Definition, Signature}
use Rattle.theory.specs.WellFormed.{pushed}

-- The entries, with one more after them that has the name and no constructors: the one that is being declared.
abbrev pub with_name : Signature → List ℕ → Signature
with_name S name = pushed S (Definition name (Sort 0) (Sort 0))

-- the entries where something with a name is being declared
abbrev pub with_own : Signature → Option (List ℕ) → Signature
with_own S (Some name) = with_name S name
with_own S None = S

-- the name of an entry that is a definition or a family; any other number has none
abbrev pub own_name : Option Entry → List ℕ
own_name (Some (FamilyOf f)) = f.name
own_name (Some (Definition name type body)) = name
own_name _ = []

abbrev pub own_constructor_name : Option Constructor → List ℕ
own_constructor_name (Some c) = c.name
own_constructor_name None = []

abbrev pub constructor_name_in : Option Entry → ℕ → List ℕ
constructor_name_in (Some (FamilyOf f)) c = own_constructor_name (slice_get f.constructors c)
constructor_name_in _ c = []

-- the name of definition or family number n
abbrev pub name_at : Signature → ℕ → List ℕ
name_at S n = own_name (slice_get S.entries n)

-- the name of constructor c of family number n
abbrev pub constructor_name_at : Signature → ℕ → ℕ → List ℕ
constructor_name_at S n c = constructor_name_in (slice_get S.entries n) c

-- D!elim.m, for a family with the name D
abbrev pub eliminator_name : List ℕ → ℕ → List ℕ
eliminator_name family m = family ++ codes "!elim." ++ decimal m

-- Eq.i!k.m
abbrev pub axiom_k_name : ℕ → ℕ → List ℕ
axiom_k_name i m = codes "Eq." ++ decimal i ++ codes "!k." ++ decimal m
