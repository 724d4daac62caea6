-- A run of the parser over a whole text.
use Rattle.std.specs.Prelude.{ℕ, List, [], ◌∷◌, length, Option, Some, None}
use Rattle.surface_syntax.specs.Trees as tree
use Rattle.surface_syntax.specs.Machine.{Outcome, Goes, Ends, Stuck, Over, State, step}
use Rattle.surface_syntax.specs.declared.lexeme.Lexeme.{Lexeme}
use Rattle.surface_syntax.specs.declared.lexeme.Lexeme.TheVariants as x
use Rattle.std.specs.Prelude.{Bool}

-- The declarations; or how many lexemes are left where no source file goes on, or where a term, pattern or
-- clause begins inside too many others.
pub data Answer : Type 0 where
  Read : List tree.Decl → Answer
  Wrong : ℕ → Answer
  Deep : ℕ → Answer

-- the answer with a declaration before it
abbrev pub behind : Option tree.Decl → Answer → Answer
behind None a = a
behind (Some d) (Read ds) = Read (d ∷ ds)
behind (Some d) (Wrong n) = Wrong n
behind (Some d) (Deep n) = Deep n

-- the answer at the end of the file
abbrev pub finish : Outcome → Answer
finish (Goes o s) = Wrong 0
finish (Ends o) = behind o (Read [])
finish Stuck = Wrong 0
finish (Over n) = Deep n

-- the answer after the outcome of a lexeme, where `n` lexemes are left before it is read
abbrev pub onward : ℕ → (State → Answer) → Outcome → Answer
onward n rest (Goes o s) = behind o (rest s)
onward n rest (Ends o) = Wrong n
onward n rest Stuck = Wrong n
onward n rest (Over i) = Deep i

-- `allows` is as in the machine
abbrev pub run : (allows : ℕ → ℕ → Bool) → State → List Lexeme → Answer
run allows s [] = finish (step allows 0 s x.End)
run allows s (y ∷ ts) = onward (length (y ∷ ts)) (λ s'. run allows s' ts) (step allows (length (y ∷ ts)) s y)
