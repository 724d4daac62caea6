-- How a text splits into tokens, blanks and comments.
use Rattle.std.specs.Prelude.{◌≡◌, ◌≢◌, ℕ, ◌+◌, List, [], ◌∷◌, take, drop, ◌≤◌}
use Rattle.std.specs.Str.{IsUtf8, chars}
use Rattle.surface_syntax.specs.declared.token.Token.{Token}
use Rattle.surface_syntax.specs.declared.token.TokenKind.{TokenKind}
use Rattle.surface_syntax.specs.declared.token.Piece.TheVariants.{Gap, Found, Bad}
use Rattle.surface_syntax.specs.Spelling.{piece, byte_len}

-- From the offset `at` on, the characters `cs` are these tokens, blanks and comments, up to the offset `end`; the
-- characters `rest` are left.
pub data Reads : (at : ℕ) (cs : List ℕ) (tokens : List Token) (end : ℕ) (rest : List ℕ) → Type 0 where
  stop : {at : ℕ} {cs : List ℕ} → Reads at cs [] at cs
  gap : {at end n : ℕ} {cs rest : List ℕ} {tokens : List Token} → piece cs ≡ Gap n → Reads (at + byte_len (take n cs)) (drop n cs) tokens end rest → Reads at cs tokens end rest
  token : {at end n : ℕ} {cs rest : List ℕ} {tokens : List Token} {kind : TokenKind} → piece cs ≡ Found kind n → Reads (at + byte_len (take n cs)) (drop n cs) tokens end rest →
      Reads at cs (record { kind = kind; start = at; end = at + byte_len (take n cs) } ∷ tokens) end rest

-- the characters split into these tokens, and blanks and comments alone are outside them
abbrev pub Splits : List ℕ → List Token → Type 0
Splits cs tokens = Reads 0 cs tokens (byte_len cs) []

-- the characters split up to the offset, and something other than a token, a blank or a comment is there
pub record StopsAt (cs : List ℕ) (offset : ℕ) : Type 0 where
  pub tokens : List Token
  pub rest : List ℕ
  pub front : Reads 0 cs tokens offset rest
  pub more : rest ≢ []
  pub bad : piece rest ≡ Bad

-- the text is UTF-8, and splits into these tokens
pub record AreTokens (bytes : List ℕ) (tokens : List Token) : Type 0 where
  pub utf8 : IsUtf8 bytes
  pub whole : Splits (chars bytes) tokens

-- the text is UTF-8, and no token is at the offset
pub record IsBadToken (bytes : List ℕ) (offset : ℕ) : Type 0 where
  pub utf8 : IsUtf8 bytes
  pub stops : StopsAt (chars bytes) offset

-- the tokens are one after the other between the two offsets
abbrev pub AreInOrder : ℕ → List Token → ℕ → Type 0
AreInOrder from [] to = from ≤ to
AreInOrder from (t ∷ ts) to = (from ≤ t.start) × (t.start ≤ t.end) × AreInOrder t.end ts to
