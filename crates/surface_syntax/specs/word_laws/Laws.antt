-- The laws on the words and the numbers of a parsed source file.
use Rattle.std.specs.Prelude.{◌≡◌, ◌<◌, ◌≤◌, ℕ, Bool, false, List, length}
use Rattle.std.specs.Str.{chars}
use Rattle.surface_syntax.specs.Grammar.{File}
use Rattle.surface_syntax.specs.Lexemes.{lexemes_of}
use Rattle.surface_syntax.specs.Spelling.{is_keyword}
use Rattle.surface_syntax.specs.Splitting.{AreTokens}
use Rattle.surface_syntax.specs.Tokens.{IsName}
use Rattle.surface_syntax.specs.Trees.{Decl}
use Rattle.surface_syntax.specs.declared.token.Token.{Token}
use Rattle.surface_syntax.specs.declared.tree.Word.{Word}
use Rattle.surface_syntax.specs.word_laws.Numbers.{HasFew}
use Rattle.surface_syntax.specs.word_laws.Words.{Each, HasWords, IsPlain}

-- each word of a parsed declaration spells a name: a plain one where it is declared or bound, a plain or a dotted one where it is used
abbrev pub WordsAreSpelled : Type 0
WordsAreSpelled =
    (allows : ℕ → ℕ → Bool) (bytes : List ℕ) (tokens : List Token) (ds : List Decl) → AreTokens bytes tokens → File allows (lexemes_of bytes tokens) ds → Each HasWords ds

-- a plain name has from 1 to 255 bytes, and is no keyword
abbrev pub PlainNamesAreShort : Type 0
PlainNamesAreShort = (w : Word) → IsPlain w → IsName (chars w.text) × (is_keyword (chars w.text) ≡ false) × (0 < length w.text) × (length w.text ≤ 255)

-- no declaration has more parts of one kind than the file has bytes
abbrev pub PartsAreFew : Type 0
PartsAreFew =
    (allows : ℕ → ℕ → Bool) (bytes : List ℕ) (tokens : List Token) (ds : List Decl) → AreTokens bytes tokens → File allows (lexemes_of bytes tokens) ds
    → Each (HasFew (length bytes)) ds
