-- Where a term, pattern or clause begins inside 2,000 others.
use Rattle.std.specs.Prelude.{◌≡◌, ℕ, Bool, ◌||◌, ◌⊎◌, List, [], ◌∷◌, ◌++◌, length, nat_le, nat_lt}
use Rattle.surface_syntax.specs.Trees as tree
use Rattle.surface_syntax.specs.Grammar.{File, limit}
use Rattle.surface_syntax.specs.Viable.{every, IsViable, Next, GoesOn}
use Rattle.surface_syntax.specs.declared.lexeme.Lexeme.{Lexeme}
use Rattle.surface_syntax.specs.declared.lexeme.Lexeme.TheVariants.{Backslash}

-- all that begins where more than `i` lexemes are left is within the limit, and after that anything may begin
abbrev pub down_to : ℕ → ℕ → ℕ → Bool
down_to i d j = limit d j || nat_le j i

-- all that begins where `i` lexemes or more are left is within the limit, and after that anything may begin
abbrev pub past : ℕ → ℕ → ℕ → Bool
past i d j = limit d j || nat_lt j i

-- a source file; of all that is inside 2,000 others in it, the first begins where `i` lexemes are left
pub record IsTooDeepAt (text : List Lexeme) (i : ℕ) : Type 0 where
  pub decls : List tree.Decl
  pub file : File (down_to i) text decls
  pub begins : (ds : List tree.Decl) → File (past i) text ds → ⊥

-- The first that is inside 2,000 others begins where `n` of the lexemes are left.
--
-- It begins after `front`. After `(` names may begin a term or a binder, so it can take some lexemes until that is sure:
-- these are `seen`. Some text that begins with `front` and `seen` has it there (`deep`), and so does every text that goes
-- on as `back` does (`always`). Either such a file exists, or a term is due at that place whatever is there (`due`): `\`
-- could be there, with which nothing but a term begins. A pattern, or a clause after `{`, counts only where the
-- lexemes begin one.
pub record IsNested (ts : List Lexeme) (n : ℕ) : Type 0 where
  pub front : List Lexeme
  pub seen : List Lexeme
  pub back : List Lexeme
  pub parts : ts ≡ front ++ (seen ++ back)
  pub left : length (seen ++ back) ≡ n
  pub more : List Lexeme
  pub deep : IsTooDeepAt (front ++ (seen ++ more)) (length (seen ++ more))
  pub always : (more : List Lexeme) → Next back more → (ds : List tree.Decl) → File every (front ++ (seen ++ more)) ds →
      IsTooDeepAt (front ++ (seen ++ more)) (length (seen ++ more))
  pub due : GoesOn (front ++ seen) back ⊎ IsViable (front ++ Backslash ∷ [])
