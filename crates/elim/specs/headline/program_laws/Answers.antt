-- The reason in the grammar for each answer of the parser.
use Rattle.std.specs.Prelude.{◌≡◌, ℕ, List, Result, Ok, Err}
use Rattle.surface_syntax.specs.Grammar as grammar
use Rattle.surface_syntax.specs.Lexemes.{lexemes_of}
use Rattle.surface_syntax.specs.Nesting.{IsNested}
use Rattle.surface_syntax.specs.Parses.{NotNested, offset_of}
use Rattle.surface_syntax.specs.Trees.{Decl}
use Rattle.surface_syntax.specs.Viable.{GoesWrong}
use Rattle.surface_syntax.specs.declared.stop.SyntaxStop.{SyntaxStop}
use Rattle.surface_syntax.specs.declared.stop.SyntaxStop.TheVariants.{Nested, Syntax}
use Rattle.surface_syntax.specs.declared.token.Token.{Token}

-- the tokens before the offset begin a file of the language, and none goes on with the next one; nothing is inside 2,000 others
pub record IsWrongAt (bytes : List ℕ) (tokens : List Token) (offset : ℕ) : Type 0 where
  pub left : ℕ
  pub wrong : GoesWrong (lexemes_of bytes tokens) left
  pub flat : NotNested (lexemes_of bytes tokens)
  pub place : offset ≡ offset_of bytes tokens left

-- at the offset begins the first term, pattern or clause that is inside 2,000 others
pub record IsNestedAt (bytes : List ℕ) (tokens : List Token) (offset : ℕ) : Type 0 where
  pub left : ℕ
  pub nested : IsNested (lexemes_of bytes tokens) left
  pub place : offset ≡ offset_of bytes tokens left

-- the answer has its reason in the grammar; there is no other
abbrev pub SaysOf : List ℕ → List Token → Result (List Decl) SyntaxStop → Type 0
SaysOf bytes tokens (Ok decls) = grammar.File grammar.limit (lexemes_of bytes tokens) decls
SaysOf bytes tokens (Err (Syntax offset)) = IsWrongAt bytes tokens offset
SaysOf bytes tokens (Err (Nested offset)) = IsNestedAt bytes tokens offset
SaysOf bytes tokens (Err _) = ⊥
