-- Patterns over plain terms. A list of patterns is a `Pats`.
use Rattle.std.specs.Prelude.{ℕ, List, [], ◌∷◌}
use Rattle.theory.specs.Terms.{Term}

-- `Con f c args` is constructor `c` of the family with entry number `f`, with its arguments after the parameters
mutual
  pub data Pat : Type 0 where
    Bind : Pat
    Wild : Pat
    Dot : Term → Pat
    Con : ℕ → ℕ → Pats → Pat
    Absurd : Pat

  pub data Pats : Type 0 where
    nil : Pats
    cons : Pat → Pats → Pats

-- the patterns of a list
abbrev pub vector : List Pat → Pats
vector [] = nil
vector (pat ∷ pats) = cons pat (vector pats)
