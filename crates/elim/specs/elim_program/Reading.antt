-- The declarations that the grammar has for a source file.
use Rattle.std.specs.Prelude.{◌≤◌, ℕ, List, length}
use Rattle.surface_syntax.specs.Grammar as grammar
use Rattle.surface_syntax.specs.Lexemes.{lexemes_of}
use Rattle.surface_syntax.specs.Splitting.{AreTokens}
use Rattle.surface_syntax.specs.Trees.{Decl}
use Rattle.surface_syntax.specs.declared.token.Token.{Token}
use Rattle.elim.specs.program_texts.Texts.{limit}

-- the bytes are no more than a source file may have, they split into tokens, and the grammar has these declarations for the tokens
pub record IsRead (bytes : List ℕ) (decls : List Decl) : Type 0 where
  pub few : length bytes ≤ limit
  pub tokens : List Token
  pub split : AreTokens bytes tokens
  pub file : grammar.File grammar.limit (lexemes_of bytes tokens) decls
