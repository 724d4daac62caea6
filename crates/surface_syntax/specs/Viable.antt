-- Which lexemes begin a source file, and where lexemes go wrong.
use Rattle.std.specs.Prelude.{◌≡◌, ℕ, Bool, true, List, [], ◌∷◌, ◌++◌, length}
use Rattle.surface_syntax.specs.Trees as tree
use Rattle.surface_syntax.specs.Grammar.{File}
use Rattle.surface_syntax.specs.declared.lexeme.Lexeme.{Lexeme}

-- a term, pattern or clause may begin everywhere
abbrev pub every : ℕ → ℕ → Bool
every d i = true

-- some lexemes after these make a source file
pub record IsViable (front : List Lexeme) : Type 0 where
  pub more : List Lexeme
  pub decls : List tree.Decl
  pub file : File every (front ++ more) decls

-- `Next back more`: `more` begins with the lexeme with which `back` begins, or both are at the end of the file
pub data Next : List Lexeme → List Lexeme → Type 0 where
  nothing : Next [] []
  first : {y : Lexeme} {back more : List Lexeme} → Next (y ∷ back) (y ∷ more)

-- a source file goes on after the front with the first of these lexemes, or ends there where these are none
pub record GoesOn (front back : List Lexeme) : Type 0 where
  pub more : List Lexeme
  pub next : Next back more
  pub decls : List tree.Decl
  pub file : File every (front ++ more) decls

-- no source file does
abbrev pub GoesNoFurther : List Lexeme → List Lexeme → Type 0
GoesNoFurther front back = (more : List Lexeme) → Next back more → (ds : List tree.Decl) → File every (front ++ more) ds → ⊥

-- the lexemes go wrong where `n` of them are left
pub record GoesWrong (ts : List Lexeme) (n : ℕ) : Type 0 where
  pub front : List Lexeme
  pub back : List Lexeme
  pub parts : ts ≡ front ++ back
  pub left : length back ≡ n
  pub viable : IsViable front
  pub stops : GoesNoFurther front back
