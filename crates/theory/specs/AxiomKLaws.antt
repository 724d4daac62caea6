-- The law without K: where the flag of a well-formed signature is off, nothing in it or over it holds K.
use Rattle.std.specs.Prelude.{◌≡◌, ℕ, false}
use Rattle.theory.specs.Terms.{Term, Pi, Lam, App, Let, AxiomK}
use Rattle.theory.specs.Telescopes.{Context}
use Rattle.theory.specs.Signatures.{Signature, AxiomKAt, IsEntryAt}
use Rattle.theory.specs.Typing.{Has}
use Rattle.theory.specs.WellFormed.{IsWellFormedSoFar}

-- no symbol of K is in the term
abbrev pub LacksAxiomK : Term → Type 0
LacksAxiomK (Pi a b) = LacksAxiomK a × LacksAxiomK b
LacksAxiomK (Lam a b) = LacksAxiomK a × LacksAxiomK b
LacksAxiomK (App f a) = LacksAxiomK f × LacksAxiomK a
LacksAxiomK (Let a t b) = LacksAxiomK a × LacksAxiomK t × LacksAxiomK b
LacksAxiomK (AxiomK i m) = ⊥
LacksAxiomK _ = Unit {0}

-- no entry is an instance of K
abbrev pub NoAxiomKEntry : Type 0
NoAxiomKEntry =
    (S : Signature) → IsWellFormedSoFar S → S.has_k ≡ false → (n i m : ℕ) → ¬ (IsEntryAt S n (AxiomKAt i m))

-- neither a term that has a type holds a symbol of K, nor the type
abbrev pub NoAxiomKInDerivations : Type 0
NoAxiomKInDerivations =
    (S : Signature) → IsWellFormedSoFar S → S.has_k ≡ false → (G : Context) (t a : Term) → Has S G t a →
    LacksAxiomK t × LacksAxiomK a
