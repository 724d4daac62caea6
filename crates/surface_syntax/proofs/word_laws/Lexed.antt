-- Names among tokens are names among lexemes.
use Rattle.std.proofs.Common.{ℕ, Bool, true, false, List, [], ◌∷◌, All, codes}
use Rattle.std.specs.Prelude.{if◌then◌else◌, nat_le}
use Rattle.std.proofs.lemmas.List.Elements.{All-head, All-tail}
use Rattle.theory.specs.Terms.{top}
use Rattle.surface_syntax.specs.Lexemes.{leveled, number, spelled, word_of, lexemes_of}
use Rattle.surface_syntax.specs.Spelling.{is_text}
use Rattle.surface_syntax.specs.declared.lexeme.Lexeme.TheVariants as x
use Rattle.surface_syntax.specs.declared.token.Token.{Token}
use Rattle.surface_syntax.specs.declared.token.TokenKind.{TokenKind}
use Rattle.surface_syntax.specs.declared.token.TokenKind.TheVariants.{Plain, Dotted, Number, Keyword, Mark}
use Rattle.surface_syntax.specs.declared.tree.Word.{Word}
use Rattle.surface_syntax.specs.word_laws.Words.{Each, IsSpelled}
use Rattle.surface_syntax.proofs.word_laws.Declared.{IsGood}

leveled-good : (n : ℕ) → IsGood (leveled n)
leveled-good n = go (nat_le n top)
  where
    go : (b : Bool) → IsGood (if b then x.Level n else x.Number)
    go true = tt
    go false = tt

number-good : (text : List ℕ) → IsGood (number text)
number-good [] = tt
number-good (d ∷ []) = leveled-good _
number-good (c ∷ d ∷ []) = leveled-good _
number-good (c ∷ d ∷ e ∷ text) = tt

keyword-good : (a b c d e f : Bool) →
    IsGood (if a then x.Data else (if b then x.Def else (if c then x.Fun else (if d then x.With else (if e then x.Let else (if f then x.In else x.Type))))))
keyword-good true b c d e f = tt
keyword-good false true c d e f = tt
keyword-good false false true d e f = tt
keyword-good false false false true e f = tt
keyword-good false false false false true f = tt
keyword-good false false false false false true = tt
keyword-good false false false false false false = tt

mark-good : (a b c d e f i j k l : Bool) →
    IsGood (if a then x.Open else (if b then x.Close else (if c then x.OpenBrace else (if d then x.CloseBrace else (if e then x.Colon
    else (if f then x.Semicolon else (if i then x.Equals else (if j then x.Backslash else (if k then x.Arrow else (if l then x.Underscore else x.Dot))))))))))
mark-good true b c d e f i j k l = tt
mark-good false true c d e f i j k l = tt
mark-good false false true d e f i j k l = tt
mark-good false false false true e f i j k l = tt
mark-good false false false false true f i j k l = tt
mark-good false false false false false true i j k l = tt
mark-good false false false false false false true j k l = tt
mark-good false false false false false false false true k l = tt
mark-good false false false false false false false false true l = tt
mark-good false false false false false false false false false true = tt
mark-good false false false false false false false false false false = tt

lexeme-good : (of : TokenKind) (w : Word) → IsSpelled of w → IsGood (spelled of w)
lexeme-good Plain w h = h
lexeme-good Dotted w h = h
lexeme-good Number w h = number-good w.text
lexeme-good Keyword w h =
    keyword-good (is_text w.text (codes "data")) (is_text w.text (codes "def")) (is_text w.text (codes "fun")) (is_text w.text (codes "with")) (is_text w.text (codes "let")) (is_text w.text (codes "in"))
lexeme-good Mark w h =
    mark-good (is_text w.text (codes "(")) (is_text w.text (codes ")")) (is_text w.text (codes "{")) (is_text w.text (codes "}")) (is_text w.text (codes ":"))
    (is_text w.text (codes ";")) (is_text w.text (codes "=")) (is_text w.text (codes "\\")) (is_text w.text (codes "->")) (is_text w.text (codes "_"))

pub lexemes-good : (bytes : List ℕ) (tokens : List Token) → All (λ t. IsSpelled t.kind (word_of bytes t)) tokens → Each IsGood (lexemes_of bytes tokens)
lexemes-good bytes [] h = tt
lexemes-good bytes (t ∷ ts) h = (
  lexeme-good t.kind (word_of bytes t) (All-head (λ u. IsSpelled u.kind (word_of bytes u)) t ts h),
  lexemes-good bytes ts (All-tail (λ u. IsSpelled u.kind (word_of bytes u)) t ts h),
)
