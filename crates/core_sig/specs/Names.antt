-- The names that a signature knows, each with its meaning.
use Rattle.std.specs.Prelude.{◌≡◌, ◌≢◌, ℕ, ◌+◌, List, [], ◌∷◌, ◌++◌, map, Option, None, All, AllPairs, bytes_eq}
use Rattle.std.specs.Map.{lookup}
use Rattle.theory.specs.Signatures as signature
use Rattle.core_sig.specs.declared.entry.Found.{Found}
use Rattle.core_sig.specs.declared.entry.Found.TheVariants.{Entry, Con}

-- the names of constructors of family number n, the first of them with the given number
abbrev pub named_constructors : ℕ → ℕ → List (List ℕ) → List (List ℕ × Found)
named_constructors n number [] = []
named_constructors n number (name ∷ names) = (name, Con n number) ∷ named_constructors n (number + 1) names

-- the names of entry n, with the entry or the constructor of each
abbrev pub named_by : ℕ → signature.Entry → List (List ℕ × Found)
named_by n (signature.FamilyOf f) = (f.name, Entry n) ∷ named_constructors n 0 (map (λ c. c.name) f.constructors)
named_by n (signature.EliminatorAt f m) = []
named_by n (signature.AxiomKAt i m) = []
named_by n (signature.Definition name type body) = (name, Entry n) ∷ []

-- the names of entries with their meanings, the first entry with the given number
abbrev pub named : ℕ → List signature.Entry → List (List ℕ × Found)
named n [] = []
named n (e ∷ entries) = named_by n e ++ named (n + 1) entries

-- none of the names is known, and they are all different
pub record AreNew (known : List (List ℕ × Found)) (names : List (List ℕ)) : Type 0 where
  pub unknown : All (λ name. lookup (bytes_eq name) known ≡ None) names
  pub distinct : AllPairs (λ x y. x ≢ y) names

-- the entry or the constructor with a name in a signature
abbrev pub find : signature.Signature → List ℕ → Option Found
find S name = lookup (bytes_eq name) (named 0 S.entries)
