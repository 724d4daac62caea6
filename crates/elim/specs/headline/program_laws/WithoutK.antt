-- Without axiom K: an entry as its line shows it, a signature, and lines of core text.
use Rattle.std.specs.Prelude.{◌≡◌, ℕ, false, List, codes, All}
use Rattle.theory.specs.AxiomKLaws.{LacksAxiomK}
use Rattle.theory.specs.Signatures.{Entry, FamilyOf, EliminatorAt, AxiomKAt, Definition, Signature, IsEntryAt}
use Rattle.core_text.specs.RawEntries.{type_shown, constructor_type_shown}
use Rattle.elim.specs.headline.program_laws.LastLines.{begins}

-- entry number n is no instance of K, and no symbol of K is in the terms that its line shows
abbrev pub LacksK : ℕ → Entry → Type 0
LacksK n (FamilyOf f) =
    All LacksAxiomK f.parameters × LacksAxiomK (type_shown f) × All (λ c. LacksAxiomK (constructor_type_shown n f c)) f.constructors
LacksK n (EliminatorAt g m) = Unit {0}
LacksK n (AxiomKAt i m) = ⊥
LacksK n (Definition name type body) = LacksAxiomK type × LacksAxiomK body

abbrev pub HasNoK : Signature → Type 0
HasNoK S = (n : ℕ) (e : Entry) → IsEntryAt S n e → LacksK n e

-- the line is not that of an instance of K
abbrev pub IsOtherLine : List ℕ → Type 0
IsOtherLine line = begins (codes "axiomk ") line ≡ false

-- lines, and the signature whose entries they show
pub record AreWithoutK (shown : List (List ℕ)) (S : Signature) : Type 0 where
  pub lines : All IsOtherLine shown
  pub entries : HasNoK S
