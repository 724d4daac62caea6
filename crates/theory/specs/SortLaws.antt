-- The law on sorts: typing admits no sort above top - 1 in a term, and steps bring none in.
use Rattle.std.specs.Prelude.{ℕ, ◌≤◌}
use Rattle.theory.specs.Terms.{Term, SortsBelow, top}
use Rattle.theory.specs.Telescopes.{Context}
use Rattle.theory.specs.Signatures.{Signature, TypeOf}
use Rattle.theory.specs.Conversion.{Step}
use Rattle.theory.specs.Typing.{Has}
use Rattle.theory.specs.WellFormed.{IsTyped}

-- a term that has a type has sorts below top only
abbrev pub SortsOfDerivation : Type 0
SortsOfDerivation = (S : Signature) (G : Context) (t a : Term) → Has S G t a → SortsBelow top t

-- and so has the type of a symbol
abbrev pub SortsOfSymbolType : Type 0
SortsOfSymbolType = (S : Signature) → IsTyped S → (t a : Term) → TypeOf S t a → SortsBelow top a

-- a step keeps every bound on the sorts from top on
abbrev pub SortsOfStep : Type 0
SortsOfStep =
    (S : Signature) → IsTyped S → (n : ℕ) → top ≤ n → (t u : Term) → Step S t u → SortsBelow n t → SortsBelow n u
