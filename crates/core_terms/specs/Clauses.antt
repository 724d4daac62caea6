-- Clauses of a function over plain terms.
use Rattle.std.specs.Prelude.{ℕ, List, [], ◌∷◌}
use Rattle.theory.specs.Terms.{Term}
use Rattle.core_terms.specs.Patterns.{Pats}

-- `Is pats binds right` is a clause: its patterns, the number of variables that they bind, and its right side.
-- That is a right side; or a `with`, which has a scrutinee and clauses with one pattern more; or nothing, if one of the
-- patterns is absurd.
mutual
  pub data Right : Type 0 where
    Side : Term → Right
    With : Term → Clauses → Right
    Absurd : Right

  pub data Clause : Type 0 where
    Is : Pats → ℕ → Right → Clause

  pub data Clauses : Type 0 where
    nil : Clauses
    cons : Clause → Clauses → Clauses

-- the clauses of a list
abbrev pub clauses : List Clause → Clauses
clauses [] = nil
clauses (clause ∷ rest) = cons clause (clauses rest)
