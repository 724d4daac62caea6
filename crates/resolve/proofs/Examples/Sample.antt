-- A small signature, and the words of written trees.
use Rattle.std.proofs.Common.{ℕ, false, List, [], ◌∷◌}
use Rattle.std.specs.Prelude.{codes}
use Rattle.theory.specs.Terms.{App, Fam, Con}
use Rattle.theory.specs.Families.{Family, Recursive}
use Rattle.theory.specs.Signatures.{Signature, FamilyOf, Definition}
use Rattle.surface_syntax.specs.declared.tree.Word.{Word}

unfoldable pub word : List ℕ → ℕ → Word
word text start = record { text = text; start = start }

-- data N : Type 0 { z : N ; s : N -> N }
unfoldable pub numbers : Family
numbers = record {
  name = codes "N";
  parameters = [];
  indices = [];
  level = 0;
  constructors =
      record { name = codes "z"; arguments = []; targets = [] }
      ∷ record { name = codes "s"; arguments = Recursive [] [] 0 ∷ []; targets = [] }
      ∷ [];
}

-- N, and def two : N = s (s z)
unfoldable pub sample : Signature
sample = record {
  entries = FamilyOf numbers ∷ Definition (codes "two") (Fam 0) (App (Con 0 1) (App (Con 0 1) (Con 0 0))) ∷ [];
  has_k = false;
}
