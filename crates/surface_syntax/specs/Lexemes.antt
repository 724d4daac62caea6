-- The lexemes that tokens are, by their kinds and their bytes.
use Rattle.std.specs.Prelude.{ℕ, ◌+◌, ◌-◌, ◌*◌, if◌then◌else◌, List, [], ◌∷◌, map, codes, nat_le, slice_range}
use Rattle.theory.specs.Terms.{top}
use Rattle.surface_syntax.specs.Spelling.{is_text}
use Rattle.surface_syntax.specs.declared.token.Token.{Token}
use Rattle.surface_syntax.specs.declared.token.TokenKind.{TokenKind}
use Rattle.surface_syntax.specs.declared.token.TokenKind.TheVariants.{Plain, Dotted, Number, Keyword, Mark}
use Rattle.surface_syntax.specs.declared.tree.Word.{Word}
use Rattle.surface_syntax.specs.declared.lexeme.Lexeme.{Lexeme}
use Rattle.surface_syntax.specs.declared.lexeme.Lexeme.TheVariants as x

-- the keyword of this spelling; the seventh is `Type`
abbrev pub keyword : List ℕ → Lexeme
keyword text =
    if is_text text (codes "data") then x.Data
    else (if is_text text (codes "def") then x.Def
    else (if is_text text (codes "fun") then x.Fun
    else (if is_text text (codes "with") then x.With
    else (if is_text text (codes "let") then x.Let
    else (if is_text text (codes "in") then x.In
    else x.Type)))))

-- the mark of this spelling; the last one is `.`
abbrev pub mark : List ℕ → Lexeme
mark text =
    if is_text text (codes "(") then x.Open
    else (if is_text text (codes ")") then x.Close
    else (if is_text text (codes "{") then x.OpenBrace
    else (if is_text text (codes "}") then x.CloseBrace
    else (if is_text text (codes ":") then x.Colon
    else (if is_text text (codes ";") then x.Semicolon
    else (if is_text text (codes "=") then x.Equals
    else (if is_text text (codes "\\") then x.Backslash
    else (if is_text text (codes "->") then x.Arrow
    else (if is_text text (codes "_") then x.Underscore
    else x.Dot)))))))))

-- a number that is a level, or any other
abbrev pub leveled : ℕ → Lexeme
leveled n = if nat_le n top then x.Level n else x.Number

-- the number that these digits spell; one of three digits, of which the first is not `0`, is no level
abbrev pub number : List ℕ → Lexeme
number (d ∷ []) = leveled (d - 48)
number (c ∷ d ∷ []) = leveled (10 * (c - 48) + (d - 48))
number _ = x.Number

-- the lexeme of a token of this kind and spelling
abbrev pub spelled : TokenKind → Word → Lexeme
spelled Plain w = x.Plain w
spelled Dotted w = x.Dotted w
spelled Number w = number w.text
spelled Keyword w = keyword w.text
spelled Mark w = mark w.text

-- the bytes of a token, and where they are
abbrev pub word_of : List ℕ → Token → Word
word_of bytes t = record { text = slice_range bytes t.start t.end; start = t.start }

abbrev pub lexeme_of : List ℕ → Token → Lexeme
lexeme_of bytes t = spelled t.kind (word_of bytes t)

abbrev pub lexemes_of : List ℕ → List Token → List Lexeme
lexemes_of bytes tokens = map (lexeme_of bytes) tokens
